-- What is left of a run by how it stops: bytes taken from the source, cells answered, bytes written.
use Rattle.std.specs.Prelude.{◌≡◌, ◌≤◌, ◌+◌, ℕ, List, length, take, Option, Result, Ok, Err}
use Rattle.std.specs.Io.KnownBytes.{Appends, Consumes, IsAtEnd}
use Rattle.wl_ports.specs.Causes.{Rose}
use Rattle.wl_session.specs.Answers.{state_after, answers}
use Rattle.wl_session.specs.Line.{SessionState}
use Rattle.wl_session.specs.Counting.{HasBegun}
use Rattle.wl_session.specs.Reading.{Reading, AllRead}
use Rattle.wl_scan.specs.Cells.{Cutting, CellText, cut, ended, start, cells}
use Rattle.wl_session.specs.Transcript.{input_limit, texts}
use Rattle.wl_session.specs.declared.streaming.Stop.{Stop}
use Rattle.wl_session.specs.declared.streaming.Stop.TheVariants.{ReadFault, WriteFault, OutOfMemory, TooLong}

-- these cells were answered as they are read: what is kept from cell to cell, what `out` holds and that each cell was begun
pub record HasAnswered (s s' : SessionState) (held held' : Option (List ℕ)) (counts counts' : List ℕ) (cells : List CellText) : Type 0 where
  pub readings : List Reading
  pub reads : AllRead cells readings
  pub state : s' ≡ state_after s readings
  pub written : Appends held held' (answers s readings)
  pub begun : HasBegun (length cells) counts counts'

-- these bytes were cut, and the cells that ended within them were answered
pub record HasFed (c c' : Cutting) (s s' : SessionState) (held held' : Option (List ℕ)) (counts counts' : List ℕ) (bytes : List ℕ) : Type 0 where
  pub cutting : c' ≡ cut c bytes
  pub answered : HasAnswered s s' held held' counts counts' (texts (ended c bytes))

-- the count of faults of `out` by how a call ends: it rises at a write fault alone
abbrev pub OutIsBlamed : Result (Unit {0}) Stop → ℕ → ℕ → Type 0
OutIsBlamed (Err WriteFault) out out' = Rose out out'
OutIsBlamed (Err ReadFault) out out' = ⊥
OutIsBlamed (Err TooLong) out out' = ⊥
OutIsBlamed (Err OutOfMemory) out out' = out' ≡ out
OutIsBlamed (Ok done) out out' = out' ≡ out

-- the counts of faults of the source and of `out` by how a run ends
abbrev pub IsBlamed : Result (Unit {0}) Stop → ℕ → ℕ → ℕ → ℕ → Type 0
IsBlamed (Err ReadFault) source source' out out' = Rose source source' × (out' ≡ out)
IsBlamed (Err WriteFault) source source' out out' = (source' ≡ source) × Rose out out'
IsBlamed (Err TooLong) source source' out out' = (source' ≡ source) × (out' ≡ out)
IsBlamed (Err OutOfMemory) source source' out out' = (source' ≡ source) × (out' ≡ out)
IsBlamed (Ok done) source source' out out' = (source' ≡ source) × (out' ≡ out)

-- the source was read to its end, and all its cells were answered
pub record PlayedToEnd (left left' : Option (List ℕ)) (s s' : SessionState) (held held' : Option (List ℕ)) (counts counts' : List ℕ) : Type 0 where
  pub bytes : List ℕ
  pub taken : Consumes left left' bytes
  pub at_end : IsAtEnd left'
  pub few : length bytes ≤ input_limit
  pub answered : HasAnswered s s' held held' counts counts' (texts (cells bytes))

-- as many bytes were taken as are read, and the cells that ended within them were answered
pub record PlayedToFault (left left' : Option (List ℕ)) (s s' : SessionState) (held held' : Option (List ℕ)) (counts counts' : List ℕ) : Type 0 where
  pub bytes : List ℕ
  pub taken : Consumes left left' bytes
  pub few : length bytes ≤ input_limit
  pub answered : HasAnswered s s' held held' counts counts' (texts (ended start bytes))

-- one byte too many was taken, and the cells that ended before it were answered
pub record PlayedToLimit (left left' : Option (List ℕ)) (s s' : SessionState) (held held' : Option (List ℕ)) (counts counts' : List ℕ) : Type 0 where
  pub bytes : List ℕ
  pub taken : Consumes left left' bytes
  pub many : length bytes ≡ input_limit + 1
  pub answered : HasAnswered s s' held held' counts counts' (texts (ended start (take input_limit bytes)))
