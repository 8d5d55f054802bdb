use Rattle.std.proofs.Common.{◌≡◌, ◌+◌, ◌*◌, drop}
use Rattle.wl_expr.specs.Stamped.{plain, plains, from_list}
use Rattle.wl_expr.specs.Tree.{depth, depths}
use Rattle.wl_algebra.specs.Comparisons.{some_apart}
use Rattle.wl_algebra.proofs.comparisons.+apart.Given as goal

abbrev pub decreases-are_apart : goal.decreases-are_apart
decreases-are_apart l = 2 * depth (plain l.a.now)

abbrev pub decreases-some_apart : goal.decreases-some_apart
decreases-some_apart l = 2 * depths (plains (from_list l.xs.now)) + 1

abbrev pub invariant-some_apart-loop-i : goal.invariant-some_apart-loop-i
invariant-some_apart-loop-i l = some_apart (plains (from_list l.xs)) (plains (from_list l.ys)) ≡ some_apart (plains (from_list (drop l.i l.xs))) (plains (from_list (drop l.i l.ys)))
