use Rattle.wl_state.proofs.Ticking.{ticked}
use Rattle.wl_state.proofs.evaluator.Evaluator.stored_text.Goals as goal

pub returns-in_default-clause-ticks : goal.returns-in_default-clause-ticks
returns-in_default-clause-ticks g c = ticked 1 _ _ c.consult.ensures.ticks

pub returns-in-None-clause-ticks : goal.returns-in-None-clause-ticks
returns-in-None-clause-ticks g c = ticked 1 _ _ c.consult.ensures.ticks

pub returns-in-Some-message-clause-ticks : goal.returns-in-Some-message-clause-ticks
returns-in-Some-message-clause-ticks g c = ticked 1 _ _ c.consult.ensures.ticks
