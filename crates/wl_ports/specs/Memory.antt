-- What the source and the sink in memory are, as contracts see them.
use Rattle.std.specs.Prelude.{◌+◌, ◌^◌, ◌<◌, ◌++◌, ◌&&◌, ◌⊎◌, ℕ, Bool, List, length, drop, min, nat_eq, Contains, Option}
use Rattle.wl_ports.specs.Causes.{next_count}

-- the number of the next call. No list of failing calls has 2 ^ 64
abbrev pub next_call : ℕ → ℕ
next_call n = min (n + 1) (2 ^ 64)

-- a sink in memory: what it holds and has room for in all, the calls that fail, the number of the next call
pub record Kept : Type 0 where
  pub bytes : List ℕ
  pub room : ℕ
  pub fails : List ℕ
  pub calls : ℕ
  pub faults : ℕ
  pub flushed : Bool

-- a write fails where its number is listed or the piece is longer than the room that is left
abbrev pub WriteFails : Kept → ℕ → Type 0
WriteFails s n = Contains s.fails s.calls ⊎ (s.room < length s.bytes + n)

abbrev pub FlushFails : Kept → Type 0
FlushFails s = Contains s.fails s.calls

-- a call that failed
abbrev pub kept_failed : Kept → Kept
kept_failed s = record s { calls = next_call s.calls; faults = next_count s.faults }

abbrev pub kept_written : Kept → List ℕ → Kept
kept_written s piece = record s { calls = next_call s.calls; bytes = s.bytes ++ piece; flushed = s.flushed && nat_eq (length piece) 0 }

abbrev pub kept_flushed : Kept → Bool → Kept
kept_flushed s done = record s { calls = next_call s.calls; flushed = done }

-- a source in memory: what is left, the name that it serves, how much a read gives at most, the calls that fail, the number of the next call, and its counters
pub record Served : Type 0 where
  pub left : List ℕ
  pub name : Option (List ℕ)
  pub piece : ℕ
  pub fails : List ℕ
  pub calls : ℕ
  pub faults : ℕ
  pub hits : ℕ
  pub strays : ℕ

-- a read that failed
abbrev pub served_failed : Served → Served
served_failed s = record s { calls = next_call s.calls; faults = next_count s.faults }

-- a read that gave n bytes
abbrev pub served_read : Served → ℕ → Served
served_read s n = record s { calls = next_call s.calls; left = drop n s.left }

-- an open leaves all but the counters as it was
abbrev pub served_opened : Served → Served → Served
served_opened old new = record old { calls = next_call old.calls; faults = new.faults; hits = new.hits; strays = new.strays }
