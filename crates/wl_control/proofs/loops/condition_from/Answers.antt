use Rattle.wl_control.proofs.Passes.{caught_alike}
use Rattle.wl_control.proofs.loops.condition_from.Goals as goal

pub returns-clause-answer : goal.returns-clause-answer
returns-clause-answer c = caught_alike _ _ _ _ c.in_ok-condition.ensures c.catch.ensures.answer
