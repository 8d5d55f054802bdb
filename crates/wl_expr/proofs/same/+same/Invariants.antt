use Rattle.std.proofs.Common.{◌≡◌, ◌+◌, ◌*◌, map, take, length}
use Rattle.wl_expr.specs.Tree.{depth, depths}
use Rattle.wl_expr.specs.Stamped.{plain, plains, from_list}
use Rattle.wl_expr.proofs.same.+same.Given as goal

abbrev pub decreases-same_tree : goal.decreases-same_tree
decreases-same_tree l = 2 * depth (plain l.a.now)

abbrev pub decreases-same_trees : goal.decreases-same_trees
decreases-same_trees l = 2 * depths (plains (from_list l.xs.now)) + 1

abbrev pub invariant-same_trees-loop-i : goal.invariant-same_trees-loop-i
invariant-same_trees-loop-i l = (length l.xs ≡ length l.ys) × (map plain (take l.i l.xs) ≡ map plain (take l.i l.ys))
