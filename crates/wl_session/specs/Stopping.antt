-- What is left where a run stops in the middle of its cells.
use Rattle.std.specs.Prelude.{◌≡◌, ◌≤◌, ◌+◌, ◌++◌, ◌⊎◌, ℕ, List, ◌∷◌, length, take, Option, Result, Ok, Err}
use Rattle.std.specs.Io.KnownBytes.{Consumes, IsAtEnd}
use Rattle.wl_scan.specs.Cells.{CellText, ended, start, cells}
use Rattle.wl_session.specs.Answers.{IsAnswer}
use Rattle.wl_session.specs.Line.{SessionState}
use Rattle.wl_session.specs.Counting.{HasBegun}
use Rattle.wl_session.specs.Pieces.{IsWrittenInPart}
use Rattle.wl_session.specs.Streaming.{HasAnswered, PlayedToEnd, PlayedToFault, PlayedToLimit}
use Rattle.wl_session.specs.Transcript.{input_limit, texts}
use Rattle.wl_session.specs.declared.session.LineEnd.{LineEnd}
use Rattle.wl_session.specs.declared.streaming.Stop.{Stop}
use Rattle.wl_session.specs.declared.streaming.Stop.TheVariants.{ReadFault, WriteFault, OutOfMemory, TooLong}

-- a cell was answered, and a front of its bytes was written
pub record IsAnsweredInPart (cell : CellText) (s s' : SessionState) (held held' : Option (List ℕ)) : Type 0 where
  pub end : LineEnd
  pub bytes : List ℕ
  pub answer : IsAnswer cell s s' end bytes
  pub part : IsWrittenInPart bytes held held'

-- a cell wasn't answered: the history and the counts are as they were
pub record IsUnanswered (s s' : SessionState) (held held' : Option (List ℕ)) : Type 0 where
  pub history : s'.state.world.history ≡ s.state.world.history
  pub counts : s'.counts ≡ s.counts
  pub unwritten : held' ≡ held

-- how a cell was left by what stopped the run
abbrev pub BreaksOff : Stop → CellText → SessionState → SessionState → Option (List ℕ) → Option (List ℕ) → Type 0
BreaksOff WriteFault cell s s' held held' = IsAnsweredInPart cell s s' held held'
BreaksOff OutOfMemory cell s s' held held' = IsUnanswered s s' held held'
BreaksOff ReadFault cell s s' held held' = ⊥
BreaksOff TooLong cell s s' held held' = ⊥

-- of these cells those before one were answered, it was begun, and those behind it were not
pub record HasStopped (stop : Stop) (s s' : SessionState) (held held' : Option (List ℕ)) (counts counts' : List ℕ) (cells : List CellText) : Type 0 where
  pub before : List CellText
  pub last : CellText
  pub behind : List CellText
  pub all : cells ≡ before ++ last ∷ behind
  pub between : SessionState
  pub written : Option (List ℕ)
  pub before_last : List ℕ
  pub answered : HasAnswered s between held written counts before_last before
  pub breaks : BreaksOff stop last between s' written held'
  pub begun : HasBegun 1 before_last counts'

-- the cells that the bytes taken tell of: those that end within them, or all where the source is at its end
pub data Tell (left : Option (List ℕ)) (bytes : List ℕ) (told : List CellText) : Type 0 where
  within : told ≡ texts (ended start (take input_limit bytes)) → Tell left bytes told
  at_end : IsAtEnd left → length bytes ≤ input_limit → told ≡ texts (cells bytes) → Tell left bytes told

-- bytes were taken, and in the middle of the cells that they tell of the run stopped
pub record StopsShort (stop : Stop) (left left' : Option (List ℕ)) (s s' : SessionState) (held held' : Option (List ℕ)) (counts counts' : List ℕ) : Type 0 where
  pub bytes : List ℕ
  pub taken : Consumes left left' bytes
  pub few : length bytes ≤ input_limit + 1
  pub told : List CellText
  pub tells : Tell left' bytes told
  pub stopped : HasStopped stop s s' held held' counts counts' told

-- by how a run ends; a write fault may be that of the flush
abbrev pub Played : Result (Unit {0}) Stop → Option (List ℕ) → Option (List ℕ) → SessionState → SessionState → Option (List ℕ) → Option (List ℕ) → List ℕ → List ℕ → Type 0
Played (Ok done) left left' s s' held held' counts counts' = PlayedToEnd left left' s s' held held' counts counts'
Played (Err ReadFault) left left' s s' held held' counts counts' = PlayedToFault left left' s s' held held' counts counts'
Played (Err TooLong) left left' s s' held held' counts counts' = PlayedToLimit left left' s s' held held' counts counts'
Played (Err WriteFault) left left' s s' held held' counts counts' = StopsShort WriteFault left left' s s' held held' counts counts' ⊎ PlayedToEnd left left' s s' held held' counts counts'
Played (Err OutOfMemory) left left' s s' held held' counts counts' = StopsShort OutOfMemory left left' s s' held held' counts counts'
