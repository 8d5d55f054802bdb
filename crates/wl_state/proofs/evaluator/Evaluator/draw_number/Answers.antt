use Rattle.wl_state.proofs.Recalling.{plays_drawn}
use Rattle.wl_state.proofs.evaluator.Evaluator.draw_number.Goals as goal

pub returns-clause-played : goal.returns-clause-played
returns-clause-played c = plays_drawn c.args.self.now c.saturating_add-self.result c.saturating_add-self.ensures
