use Rattle.std.proofs.Common.{◌≡◌, ◌∷◌, drop}
use Rattle.wl_expr.specs.Stamped.{plain}
use Rattle.wl_algebra.specs.Answers.{trees}
use Rattle.wl_algebra.specs.Comparisons.{are_apart, some_neighbours}
use Rattle.wl_algebra.proofs.comparisons.some_neighbours_apart.Given as goal

abbrev pub invariant-loop-arg : goal.invariant-loop-arg
invariant-loop-arg l = some_neighbours are_apart (trees l.args) ≡ some_neighbours are_apart (plain l.previous ∷ trees (drop l.arg-index l.rest))
