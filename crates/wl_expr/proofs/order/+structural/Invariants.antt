use Rattle.std.proofs.Common.{◌≡◌, ◌+◌, ◌*◌, max, drop}
use Rattle.wl_expr.specs.Order.{structural_orders}
use Rattle.wl_expr.specs.Tree.{depth, depths}
use Rattle.wl_expr.specs.Stamped.{plain, plains, from_list}
use Rattle.wl_expr.proofs.order.+structural.Given as goal

abbrev pub decreases-structural_order : goal.decreases-structural_order
decreases-structural_order l = 3 * depth (plain l.a.now)

abbrev pub decreases-structural_orders : goal.decreases-structural_orders
decreases-structural_orders l = 3 * depths (plains (from_list l.xs.now)) + 1

abbrev pub decreases-node_order : goal.decreases-node_order
decreases-node_order l = 3 * max (depth (plain l.head.now)) (depths (plains (from_list l.args.now))) + 2

abbrev pub invariant-structural_orders-loop-i : goal.invariant-structural_orders-loop-i
invariant-structural_orders-loop-i l = structural_orders (plains (from_list (drop l.i l.xs))) (plains (from_list (drop l.i l.ys))) ≡ structural_orders (plains (from_list l.xs)) (plains (from_list l.ys))
