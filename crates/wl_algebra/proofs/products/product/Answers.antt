use Rattle.std.proofs.Common.{rules, ◌≡◌, ◌+◌, List, Option, Some, None, drop, sym, ap, ◌∙◌}
use Rattle.wl_exact.specs.Fraction.{Fraction}
use Rattle.wl_expr.specs.Stamped.{Stamped}
use Rattle.wl_algebra.specs.Answers.{trees}
use Rattle.wl_algebra.specs.Products.{product_on}
use Rattle.wl_algebra.proofs.Groups.{overflow_stays}
use Rattle.wl_algebra.proofs.Splits.{next_of}
use Rattle.wl_algebra.proofs.products.product.Goals as goal

pub returns-in_err-product : goal.returns-in_err-product
returns-in_err-product c =
    let rest = trees (drop (c.loop-arg.arg-index + 1) c.args.args.now) in
    let n : c.from_residual.result ≡ None = search rules in
    n ∙ sym (c.loop-arg.invariant
    ∙ ap (λ (us : List Stamped). product_on (Some c.loop-arg.product) (trees us)) (next_of c.args.args.now c.loop-arg.arg-index c.arg-item.result c.loop-arg-test.true c.arg-item.is)
    ∙ ap (λ (o : Option Fraction). product_on o rest) (sym c.times_number.ensures ∙ c.in_err-product.was)
    ∙ overflow_stays rest)
