use Rattle.std.proofs.Common.{arith, subst}
use Rattle.std.proofs.lemmas.Grind.{common_steps}
use Rattle.wl_expr.specs.Proper.{IsProper}
use Rattle.wl_expr.specs.Stamped.{Stamped, plain}
use Rattle.wl_expr.proofs.Properness.{are_proper_more}
use Rattle.wl_expr.proofs.expr.measured.Goals as goal

pub loop-arg-preserved : goal.loop-arg-preserved
loop-arg-preserved c = record {
  weight = grind (arith, common_steps);
  depth = grind (arith, common_steps);
  capped = grind (arith, common_steps);
  small = grind (arith, common_steps);
  proper_head = c.loop-arg.invariant.proper_head;
  proper_args = are_proper_more c.args.args.now c.loop-arg.arg-index c.arg-item.result c.loop-arg-test.true c.loop-arg.invariant.proper_args (subst (λ (t : Stamped). IsProper (plain t)) c.arg-item.is c.weight.ensures.proper);
}
