-- What a run writes and leaves, whatever the pieces that its source gives.
use Rattle.std.specs.Prelude.{ℕ, List, [], ◌∷◌, ◌++◌, ◌==◌, length, map, take, nat_le, codes, Some, None, if◌then◌else◌}
use Rattle.wl_semantics.specs.State.{Line}
use Rattle.wl_rules.specs.Entries.{Definitions, empty_entry}
use Rattle.wl_scan.specs.Cells.{CellText, PlacedCell, start, cells, ended}
use Rattle.wl_session.specs.Answers.{no_counts, fresh, state_after, answers}
use Rattle.wl_session.specs.Reading.{Reading}
use Rattle.wl_session.specs.Words.{Asked}
use Rattle.wl_session.specs.declared.counts.Counts.{Counts}

-- the longest input that is read, in bytes
abbrev pub input_limit : ℕ
input_limit = 1073741824

-- the line on `err` for a status
abbrev pub line_for : ℕ → List ℕ
line_for status = if status == 2 then codes "usage: wl [--steps N] [--form input|full] [--demo N] [FILE]" ++ 10 ∷ []
    else (if status == 3 then codes "wl: read failed" ++ 10 ∷ []
    else (if status == 4 then codes "wl: write failed" ++ 10 ∷ []
    else (if status == 5 then codes "wl: out of memory" ++ 10 ∷ []
    else (if status == 6 then codes "wl: input longer than 1073741824 bytes" ++ 10 ∷ []
    else []))))

-- cells without their places
abbrev pub texts : List PlacedCell → List CellText
texts cells = map (λ c. c.text) cells

-- the cells that are read: all of them, or those that end within the longest input that is read
abbrev pub cells_read : Asked → List ℕ → List CellText
cells_read None bytes = []
cells_read (Some name) bytes = if nat_le (length bytes) input_limit then texts (cells bytes) else texts (ended start (take input_limit bytes))

-- where there is no session
abbrev pub no_definitions : Definitions
no_definitions x = empty_entry

-- the bytes for `out`, the status, and the history, the definitions and the counts of the session; the line for `err` is that of the status
pub record Transcript : Type 0 where
  pub out : List ℕ
  pub status : ℕ
  pub history : List Line
  pub definitions : Definitions
  pub counts : Counts

-- of words that are read or not, the bytes of the source, and the readings of its cells
abbrev pub transcript : Asked → List ℕ → List Reading → Transcript
transcript None bytes readings = record { out = []; status = 2; history = []; definitions = no_definitions; counts = no_counts }
transcript (Some name) bytes readings = let last = state_after fresh readings in record {
  out = answers fresh readings;
  status = if nat_le (length bytes) input_limit then (if last.flawed then 1 else 0) else 6;
  history = last.state.world.history;
  definitions = last.state.world.definitions;
  counts = last.counts;
}
