use Rattle.std.proofs.Common.{◌≡◌, length, map}
use Rattle.std.specs.Cmp.Lexicographic.{slice_cmp}
use Rattle.wl_expr.specs.Order.{without_numbers, power_order, last_first}
use Rattle.wl_expr.specs.Stamped.{plain}
use Rattle.wl_expr.proofs.order.factors_order.Given as goal

abbrev pub invariant-loop-before : goal.invariant-loop-before
invariant-loop-before l = slice_cmp power_order (last_first (without_numbers (map plain l.left))) (last_first (without_numbers (map plain l.right))) ≡ slice_cmp power_order (last_first (without_numbers (map plain l.xs))) (last_first (without_numbers (map plain l.ys)))

abbrev pub decreases-loop-before : goal.decreases-loop-before
decreases-loop-before l = length l.left
