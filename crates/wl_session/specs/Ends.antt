-- How a run ends: its status, and what that says of its source, its sinks and its session.
use Rattle.std.specs.Prelude.{◌≡◌, ◌≢◌, ◌≤◌, ◌<◌, ◌+◌, ◌-◌, ◌^◌, ◌++◌, ◌⊎◌, ℕ, Bool, true, false, List, [], length, Option, Some, None, IfSome, Result, Ok, Err}
use Rattle.std.specs.Io.KnownBytes.{Appends, Consumes, IsAtEnd}
use Rattle.wl_ports.specs.Causes.{Rose, next_count}
use Rattle.wl_eval.specs.KernelView.{plain_lines}
use Rattle.wl_semantics.specs.State.{Line}
use Rattle.wl_expr.specs.Words.{Name}
use Rattle.wl_rules.specs.Entries.{Definitions}
use Rattle.wl_rules.specs.Stored.{definitions}
use Rattle.wl_scan.specs.Cells.{CellText, start, ended}
use Rattle.wl_session.specs.Counting.{HasBegun}
use Rattle.wl_session.specs.Answers.{no_counts, fresh, state_after, answers}
use Rattle.wl_session.specs.Line.{SessionState}
use Rattle.wl_session.specs.SessionView.{SessionView}
use Rattle.wl_session.specs.Transcript.{transcript, cells_read, texts, input_limit, no_definitions}
use Rattle.wl_session.specs.Reading.{Reading, AllRead}
use Rattle.wl_session.specs.Words.{Asked}
use Rattle.wl_session.specs.declared.counts.Counts.{Counts}
use Rattle.wl_session.specs.declared.top.Ended.{Ended}
use Rattle.wl_session.specs.declared.streaming.Stop.{Stop}
use Rattle.wl_session.specs.declared.streaming.Stop.TheVariants.{ReadFault, WriteFault, OutOfMemory, TooLong}

-- the status of a run that is not refused its words; at its end it says whether some cell was refused, or its budget ended
abbrev pub status_of : Result (Unit {0}) Stop → Bool → ℕ
status_of (Ok done) false = 0
status_of (Ok done) true = 1
status_of (Err ReadFault) flawed = 3
status_of (Err WriteFault) flawed = 4
status_of (Err OutOfMemory) flawed = 5
status_of (Err TooLong) flawed = 6

-- the history, the definitions and the counts of the session, where there is one
abbrev pub history_of : Option SessionView → List Line
history_of None = []
history_of (Some view) = plain_lines view.kernel.lines

abbrev pub definitions_of : Option SessionView → Definitions
definitions_of None = no_definitions
definitions_of (Some view) = definitions view.kernel.store

abbrev pub counts_of : Option SessionView → Counts
counts_of None = no_counts
counts_of (Some view) = view.counts

-- the session has the history, the definitions and the counts of this state
pub record IsLeftWith (s : SessionState) (session : Option SessionView) : Type 0 where
  pub history : history_of session ≡ s.state.world.history
  pub definitions : (x : Name) → definitions_of session x ≡ s.state.world.definitions x
  pub counts : counts_of session ≡ s.counts

-- the status, the bytes on `out`, and what the session has, are those of the transcript, for the cells as they are read
pub record IsTranscript (asked : Asked) (bytes : List ℕ) (end : Ended) (held held' : Option (List ℕ)) : Type 0 where
  pub readings : List Reading
  pub reads : AllRead (cells_read asked bytes) readings
  pub status : end.status ≡ (transcript asked bytes readings).status
  pub out : Appends held held' (transcript asked bytes readings).out
  pub history : history_of end.session ≡ (transcript asked bytes readings).history
  pub definitions : (x : Name) → definitions_of end.session x ≡ (transcript asked bytes readings).definitions x
  pub counts : counts_of end.session ≡ (transcript asked bytes readings).counts

-- Of the bytes that were taken from the source, where it tells them, the cells that ended within them were answered as they
-- are read, and no others was begun.
pub record IsCutShort (end : Ended) (left left' held held' : Option (List ℕ)) (counts counts' : List ℕ) : Type 0 where
  pub bytes : List ℕ
  pub taken : Consumes left left' bytes
  pub few : length bytes ≤ input_limit
  pub readings : List Reading
  pub reads : AllRead (texts (ended start bytes)) readings
  pub out : Appends held held' (answers fresh readings)
  pub left_with : IsLeftWith (state_after fresh readings) end.session
  pub number : (counts_of end.session).cells ≡ length (texts (ended start bytes))
  pub counted : HasBegun (length (texts (ended start bytes))) counts counts'

-- Of these cells some were begun, as many as the session counted. All bytes of the whole ones were written, and of the broken one, if
-- there is one, a front; the session is that of both.
pub record IsBrokenOff (cells : List CellText) (end : Ended) (held held' : Option (List ℕ)) (counts counts' : List ℕ) : Type 0 where
  pub begun : List CellText
  pub others : List CellText
  pub all : cells ≡ begun ++ others
  pub whole : List Reading
  pub broken : List Reading
  pub one : length broken ≤ 1
  pub reads : AllRead begun (whole ++ broken)
  pub front : List ℕ
  pub rest : List ℕ
  pub of_broken : answers (state_after fresh whole) broken ≡ front ++ rest
  pub out : Appends held held' (answers fresh whole ++ front)
  pub left_with : IsLeftWith (state_after fresh (whole ++ broken)) end.session
  pub number : (counts_of end.session).cells ≡ length begun
  pub counted : HasBegun (length begun) counts counts'

-- Of these cells some were answered, as many as the session counted, their bytes were written and no others, and history and counts are
-- theirs. At most one more was begun.
pub record IsLeftOff (cells : List CellText) (end : Ended) (held held' : Option (List ℕ)) (counts counts' : List ℕ) : Type 0 where
  pub answered : List CellText
  pub unanswered : List CellText
  pub one : length unanswered ≤ 1
  pub others : List CellText
  pub all : cells ≡ (answered ++ unanswered) ++ others
  pub readings : List Reading
  pub reads : AllRead answered readings
  pub out : Appends held held' (answers fresh readings)
  pub history : history_of end.session ≡ (state_after fresh readings).state.world.history
  pub session_counts : counts_of end.session ≡ (state_after fresh readings).counts
  pub number : (counts_of end.session).cells ≡ length answered
  pub counted : HasBegun (length (answered ++ unanswered)) counts counts'

-- so many bytes were taken from the source, where it tells them
pub record HasTaken (n : ℕ) (left left' : Option (List ℕ)) : Type 0 where
  pub bytes : List ℕ
  pub taken : Consumes left left' bytes
  pub many : length bytes ≡ n

-- no more bytes were taken from the source than one past the longest input that is read, where it tells them
pub record HasTakenFew (left left' : Option (List ℕ)) : Type 0 where
  pub bytes : List ℕ
  pub taken : Consumes left left' bytes
  pub few : length bytes ≤ input_limit + 1

-- the source held no more bytes than are read, and none are left, where it tells them
pub record IsReadToEnd (left left' : Option (List ℕ)) : Type 0 where
  pub few : IfSome left (λ bytes. length bytes ≤ input_limit)
  pub at_end : IsAtEnd left'

-- a count of faults neither rose nor stands at the counter's last value
pub record IsFaultless (before now : ℕ) : Type 0 where
  pub kept : now ≡ before
  pub below : before < 2 ^ 64 - 1

-- a front of the line was written, and all of it unless the count of faults rose
pub record IsReported (line : List ℕ) (held held' : Option (List ℕ)) (faults faults' : ℕ) : Type 0 where
  pub front : List ℕ
  pub rest : List ℕ
  pub whole : line ≡ front ++ rest
  pub written : Appends held held' front
  pub all : (rest ≡ []) ⊎ Rose faults faults'

-- a counter rose by one, which want of memory may have prevented
pub record HasRisen (status before now : ℕ) : Type 0 where
  pub rose : status ≢ 5 → now ≡ next_count before
  pub or_stayed : (now ≡ next_count before) ⊎ (now ≡ before)
