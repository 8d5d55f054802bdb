-- The worked lines, computed. tools/eval_oracle/worked_lines.py writes this file.
use Rattle.std.proofs.Common.{refl}
use Rattle.wl_session.specs.Bytes.{bytes_of}
use Rattle.wl_session.specs.WorkedLines.{Refusals, SilentCells, Wrappers, FullForms, Ends, GivenBack, MessagesOff, LimitOfTurns, SixSteps, FiveSteps, TotalOfEight, TotalOfSeven, TotalAsTheSteps, WorkedLines}

pub refusals : Refusals
unfolding bytes_of
refusals = refl

pub silentCells : SilentCells
unfolding bytes_of
silentCells = refl

pub wrappers : Wrappers
unfolding bytes_of
wrappers = refl

pub fullForms : FullForms
unfolding bytes_of
fullForms = refl

pub ends : Ends
unfolding bytes_of
ends = refl

pub givenBack : GivenBack
unfolding bytes_of
givenBack = refl

pub messagesOff : MessagesOff
unfolding bytes_of
messagesOff = refl

pub limitOfTurns : LimitOfTurns
unfolding bytes_of
limitOfTurns = refl

pub sixSteps : SixSteps
unfolding bytes_of
sixSteps = refl

pub fiveSteps : FiveSteps
unfolding bytes_of
fiveSteps = refl

pub totalOfEight : TotalOfEight
unfolding bytes_of
totalOfEight = refl

pub totalOfSeven : TotalOfSeven
unfolding bytes_of
totalOfSeven = refl

pub totalAsTheSteps : TotalAsTheSteps
unfolding bytes_of
totalAsTheSteps = refl

pub worked_lines : WorkedLines
worked_lines = (refusals, silentCells, wrappers, fullForms, ends, givenBack, messagesOff, limitOfTurns, sixSteps, fiveSteps, totalOfEight, totalOfSeven, totalAsTheSteps)
