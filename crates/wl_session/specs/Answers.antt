-- What a session answers to its cells.
use Rattle.std.specs.Prelude.{◌≡◌, true, false, List, [], ◌∷◌, ◌++◌, None}
use Rattle.wl_semantics.specs.Outcome.{new_state}
use Rattle.wl_expr.specs.Words.{Bytes}
use Rattle.wl_scan.specs.Cells.{CellText}
use Rattle.wl_session.specs.Fault.{fault_line}
use Rattle.wl_session.specs.Line.{SessionState, Answer, counted, line}
use Rattle.wl_session.specs.Reading.{Reading, IsReading, refused, read}
use Rattle.wl_session.specs.declared.counts.Counts.{Counts}
use Rattle.wl_session.specs.declared.fault.LineFault.{LineFault}
use Rattle.wl_session.specs.declared.options.Form.TheVariants.{Input}
use Rattle.wl_session.specs.declared.options.Options.{Options}
use Rattle.wl_session.specs.declared.session.LineEnd.{LineEnd}
use Rattle.wl_session.specs.declared.session.LineEnd.TheVariants.{Refused}

abbrev pub no_counts : Counts
no_counts = record { cells = 0; refused = 0; steps = 0 }

abbrev pub new_session : Options → SessionState
new_session o = record { options = o; state = new_state o.steps; total_left = o.total; counts = no_counts; flawed = false }

-- the options of a run
abbrev pub run_options : Options
run_options = record { steps = 10000000; total = None; form = Input }

abbrev pub fresh : SessionState
fresh = new_session run_options

-- a refused cell changes nothing but the counts
abbrev pub refusal : LineFault → SessionState → Answer
refusal f s = record {
  pending = fault_line f ++ 10 ∷ [];
  end = Refused f;
  session = record s { counts = record s.counts { cells = counted s.counts.cells 1; refused = counted s.counts.refused 1 }; flawed = true };
}

unfoldable pub answer_to : SessionState → Reading → Answer
answer_to s (refused f) = refusal f s
answer_to s (read t) = line s t

-- after these further cells
abbrev pub state_after : SessionState → List Reading → SessionState
state_after s [] = s
state_after s (r ∷ rs) = state_after (answer_to s r).session rs

-- the bytes that are written for these further cells
abbrev pub answers : SessionState → List Reading → Bytes
answers s [] = []
answers s (r ∷ rs) = let a = answer_to s r in a.pending ++ answers a.session rs

-- a cell was answered as it is read: how it ended, what is kept, and the bytes that are to be written for it
pub record IsAnswer (cell : CellText) (s s' : SessionState) (end : LineEnd) (bytes : Bytes) : Type 0 where
  pub reading : Reading
  pub reads : IsReading cell reading
  pub ends : end ≡ (answer_to s reading).end
  pub state : s' ≡ (answer_to s reading).session
  pub pending : bytes ≡ (answer_to s reading).pending
