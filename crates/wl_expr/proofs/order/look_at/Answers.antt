use Rattle.std.proofs.Common.{subst}
use Rattle.wl_expr.specs.Proper.{IsProper}
use Rattle.wl_expr.specs.Stamped.{Stamped, plain}
use Rattle.wl_expr.proofs.Sorting.{all_proper_more}
use Rattle.wl_expr.proofs.order.look_at.Goals as goal

pub loop-arg-preserved : goal.loop-arg-preserved
loop-arg-preserved c =
    all_proper_more c.args.args.now c.loop-arg.arg-index c.arg-item.result c.loop-arg-test.true c.loop-arg.invariant (subst (λ (t : Stamped). IsProper (plain t)) c.arg-item.is c.weight-weight.ensures.proper)
