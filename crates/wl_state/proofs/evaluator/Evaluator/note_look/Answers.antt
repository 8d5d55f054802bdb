use Rattle.wl_state.proofs.Moves.{plays_look, log_is_none}
use Rattle.wl_state.proofs.evaluator.Evaluator.note_look.Goals as goal

pub returns-then-is_none-clause-played : goal.returns-then-is_none-clause-played
returns-then-is_none-clause-played g c = plays_look c.args.name.now c.args.self.now (log_is_none c.args.self.now.log c.is_none.result c.is_none.ensures c.if-is_none.true)
