use Rattle.std.proofs.Common.{sym, subst}
use Rattle.wl_control.proofs.Waiting.{asked_behind}
use Rattle.wl_control.specs.Places.{PlaceIsFrom}
use Rattle.wl_control.proofs.cursor.Cursor.next.Goals as goal

pub returns-clause-awaits : goal.returns-clause-awaits
returns-clause-awaits c = asked_behind _ _ _ c.in_ok-step.ensures.answer.next.0 c.in_ok-step.ensures.answer.next.1

pub returns-clause-passed : goal.returns-clause-passed
returns-clause-passed c ms h l = c.in_ok-step.ensures.passed ms (subst (PlaceIsFrom ms) (sym c.replace-place.ensures.value) h) l
