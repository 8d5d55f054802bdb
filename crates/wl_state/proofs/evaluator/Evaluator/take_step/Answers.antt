use Rattle.wl_state.proofs.Moves.{plays_tick, plays_no_tick}
use Rattle.wl_state.proofs.evaluator.Evaluator.take_step.Goals as goal

pub returns-then-self-eq0-clause-played : goal.returns-then-self-eq0-clause-played
returns-then-self-eq0-clause-played c = (plays_no_tick c.args.self.now c.if-self-eq0.true, tt)

pub returns-clause-played : goal.returns-clause-played
returns-clause-played c = (plays_tick c.args.self.now c.if-self-eq0.false, tt)
