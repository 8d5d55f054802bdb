use Rattle.std.proofs.Common.{◌≡◌, subst}
use Rattle.wl_expr.proofs.Small.{fits_decides}
use Rattle.wl_expr.specs.Stamped.{plain}
use Rattle.wl_expr.specs.Tree.{IsWithinLimits}
use Rattle.wl_state.specs.Played.{Makes}
use Rattle.wl_state.proofs.Fitting.{plays_fits, sized_fault}
use Rattle.wl_state.proofs.evaluator.Evaluator.fitted.Goals as goal

pub returns-in-Ok-clause-played : goal.returns-in-Ok-clause-played
returns-in-Ok-clause-played g c t m =
    let q : plain c.in-Ok.e ≡ t = subst (Makes t) c.in-Ok.is m in
    (plays_fits t c.args.self.now ((fits_decides t).1 (subst IsWithinLimits q c.weight-weight.ensures.fits)), q)

pub returns-in-Err-clause-played : goal.returns-in-Err-clause-played
returns-in-Err-clause-played g c t m = sized_fault t c.args.self.now c.fault.new.self c.args.made c.in-Err.fault c.fault.result c.in-Err.is m c.fault.ensures.played
