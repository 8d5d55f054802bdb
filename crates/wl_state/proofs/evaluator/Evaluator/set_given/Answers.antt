use Rattle.wl_state.proofs.ScopingParts.{given_none}
use Rattle.wl_state.proofs.evaluator.Evaluator.set_given.Goals as goal

pub returns-in-None-clause-played : goal.returns-in-None-clause-played
returns-in-None-clause-played c = given_none c.args.local.now c.args.self.now c.in-None.is
