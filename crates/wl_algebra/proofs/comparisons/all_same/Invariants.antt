use Rattle.std.proofs.Common.{◌≡◌, ◌∷◌, drop}
use Rattle.wl_expr.specs.Same.{same}
use Rattle.wl_expr.specs.Stamped.{plain}
use Rattle.wl_algebra.specs.Answers.{trees}
use Rattle.wl_algebra.specs.Comparisons.{all_neighbours}
use Rattle.wl_algebra.proofs.comparisons.all_same.Given as goal

abbrev pub invariant-loop-arg : goal.invariant-loop-arg
invariant-loop-arg l = all_neighbours same (trees l.args) ≡ all_neighbours same (plain l.previous ∷ trees (drop l.arg-index l.rest))
