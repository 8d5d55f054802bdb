use Rattle.std.proofs.Common.{◌+◌, List, drop, sym, ap, ◌∙◌, subst}
use Rattle.wl_expr.specs.Passed.{IsFrom}
use Rattle.wl_expr.specs.Stamped.{Stamped}
use Rattle.wl_algebra.specs.Answers.{trees}
use Rattle.wl_algebra.specs.Products.{Group, groups_on}
use Rattle.wl_algebra.specs.ProductsInside.{entry_groups}
use Rattle.wl_algebra.proofs.Splits.{next_of}
use Rattle.wl_algebra.proofs.products.grouped.Goals as goal

pub loop-arg-preserved : goal.loop-arg-preserved
loop-arg-preserved c =
    let rest = trees (drop (c.loop-arg.arg-index + 1) c.args.args.now) in
    record {
      value = c.loop-arg.invariant.value
          ∙ ap (λ (us : List Stamped). groups_on (entry_groups c.loop-arg.groups.entries) (trees us)) (next_of c.args.args.now c.loop-arg.arg-index c.arg-item.result c.loop-arg-test.true c.arg-item.is)
          ∙ ap (λ (gs : List Group). groups_on gs rest) (sym c.in_ok-groups.ensures.value);
      passed = λ ms h. c.in_ok-groups.ensures.passed ms (c.loop-arg.invariant.passed ms h) (subst (IsFrom ms) (sym c.arg-item.is) (h c.loop-arg.arg-index c.arg-item.result c.loop-arg-test.true));
    }
