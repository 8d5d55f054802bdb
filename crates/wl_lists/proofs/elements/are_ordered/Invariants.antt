use Rattle.std.proofs.Common.{◌≡◌, ◌∷◌, drop}
use Rattle.wl_expr.specs.Sorted.{is_sorted}
use Rattle.wl_expr.specs.Stamped.{plain}
use Rattle.wl_lists.specs.Answers.{trees}
use Rattle.wl_lists.proofs.elements.are_ordered.Given as goal

abbrev pub invariant-loop-element : goal.invariant-loop-element
invariant-loop-element l = is_sorted (trees l.elements) ≡ is_sorted (plain l.previous ∷ trees (drop l.element-index l.rest))
