use Rattle.std.proofs.Common.{refl}
use Rattle.wl_state.proofs.Rounds.{no_symbol, plays_no_attributes}
use Rattle.wl_state.proofs.evaluator.Evaluator.attributes_of_head.Goals as goal

pub returns-in_default : goal.returns-in_default
returns-in_default g c = record {
  played = plays_no_attributes _ _ _ (no_symbol _ _ _ c.view.ensures.all c.in_default.not-Symbol) c.none.ensures;
  kept = refl;
  ticks = refl;
}
