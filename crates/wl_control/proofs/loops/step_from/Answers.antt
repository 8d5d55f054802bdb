use Rattle.wl_control.proofs.Passes.{part_asked}
use Rattle.wl_control.proofs.loops.step_from.Goals as goal

pub returns-in_ok-step-in-Some-clause-answer : goal.returns-in_ok-step-in-Some-clause-answer
returns-in_ok-step-in-Some-clause-answer c = part_asked _ _ _ _ _ c.in-Some.is c.in_ok-step-in-Some.ensures c.catch.ensures.answer
