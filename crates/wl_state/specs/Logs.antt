-- What an evaluation under way has noted of the present turn: the names read and what it cost so far.
use Rattle.std.specs.Prelude.{◌≡◌, ℕ, ◌+◌, ◌≤◌, max, Bool, true, false, ◌++◌, List, Option, Some, None, ⊤}
use Rattle.std.specs.List.{All}
use Rattle.wl_rules.specs.Stored.{Stored, IsIndex, version_at}
use Rattle.wl_stamps.specs.Reads.{Read, AreDistinct}
use Rattle.wl_semantics.specs.Eval.{Record}
use Rattle.wl_state.specs.Honest.{Same, names_in, Kept}
use Rattle.wl_state.specs.declared.evaluator.Log.{Log}

-- a read is of an entry, with the version that it has now
abbrev pub IsCurrent : Stored → Read → Type 0
IsCurrent a r = IsIndex r.0 a × (version_at r.0 a ≡ r.1)

abbrev pub AreCurrent : Stored → List Read → Type 0
AreCurrent a rs = All (IsCurrent a) rs

abbrev pub IsLogOf : Stored → Option Log → Type 0
IsLogOf a None = ⊤
IsLogOf a (Some u) = AreCurrent a u.reads × AreDistinct u.reads

-- nothing is noted: an effect was made, or nobody asks
abbrev pub is_spoiled : Option Log → Bool
is_spoiled None = true
is_spoiled (Some u) = false

-- the second log is the first and, after it, what was done, which began at this depth
pub record Adds (a : Stored) (depth : ℕ) (u : Log) (d : Record) (b : Stored) (v : Log) : Type 0 where
  pub kept : Kept a b
  pub names : Same (names_in b v.reads) (names_in a u.reads ++ d.names)
  pub start : v.start ≡ u.start
  pub deepest : max v.deepest depth ≡ max (max u.deepest depth) (depth + d.depth)
  pub deeper : u.deepest ≤ v.deepest
  pub turns : v.turns ≡ max u.turns d.turns

-- one level noted, one count of turns noted
abbrev pub deepened : ℕ → Option Log → Option Log
deepened n None = None
deepened n (Some u) = Some (record u { deepest = max u.deepest n })

abbrev pub counted : ℕ → Option Log → Option Log
counted n None = None
counted n (Some u) = Some (record u { turns = max u.turns n })
