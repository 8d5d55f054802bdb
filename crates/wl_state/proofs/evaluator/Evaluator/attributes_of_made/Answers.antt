use Rattle.std.proofs.Common.{subst}
use Rattle.wl_state.specs.Prepared.{Stands}
use Rattle.wl_state.proofs.Preparing.{unfit_attributes}
use Rattle.wl_state.proofs.evaluator.Evaluator.attributes_of_made.Goals as goal

pub returns-in-None-clause-played : goal.returns-in-None-clause-played
returns-in-None-clause-played g c h s = unfit_attributes h c.args.self.now _ (subst (Stands h) c.in-None.is s).1 c.none.ensures
