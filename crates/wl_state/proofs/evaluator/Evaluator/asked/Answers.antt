use Rattle.wl_state.proofs.evaluator.Evaluator.asked.Goals as goal

pub returns-in-Ok-clause-passed : goal.returns-in-Ok-clause-passed
returns-in-Ok-clause-passed g c ms h r = c.in-Ok.ensures.passed ms h (c.lent.ensures.passed ms r)
