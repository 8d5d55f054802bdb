use Rattle.std.proofs.Common.{◌≡◌, Some, drop}
use Rattle.wl_algebra.specs.Answers.{trees}
use Rattle.wl_algebra.specs.Products.{product_on}
use Rattle.wl_algebra.specs.Sums.{one_number}
use Rattle.wl_algebra.proofs.products.product.Given as goal

abbrev pub invariant-loop-arg : goal.invariant-loop-arg
invariant-loop-arg l = product_on (Some one_number) (trees l.args) ≡ product_on (Some l.product) (trees (drop l.arg-index l.args))
