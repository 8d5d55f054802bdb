use Rattle.std.proofs.Common.{◌≡◌, rules}
use Rattle.wl_expr.specs.Stamped.{plain}
use Rattle.wl_expr.proofs.SameNodes.{same_nodes, same_at}
use Rattle.wl_expr.proofs.same.+same.Goals as goal

pub same_tree-returns-then-same_tree : goal.same_tree-returns-then-same_tree
same_tree-returns-then-same_tree t c =
    let n = c.in-Node in
    let m = c.in-Node-view in
    let e = same_nodes (plain n.head.now) (plain m.other.now) n.args.now m.others.now in
    let heads : plain n.head.now ≡ plain m.other.now = search rules in
    rw (← n.ensures.plain, ← m.ensures.plain) (λ i. e.0 (heads, c.same_trees.ensures.0 i), λ p. c.same_trees.ensures.1 (e.1 p).1)

pub same_trees-returns-then-not-same_tree : goal.same_trees-returns-then-not-same_tree
same_trees-returns-then-not-same_tree t c =
    (λ i. cc, λ e. c.if-not-same_tree.ensures.1 (cc (same_at c.args.xs.now c.args.ys.now c.loop-i.i c.index-xs-i.result c.index-ys-i.result c.loop-i-test.true e, c.index-xs-i.is, c.index-ys-i.is)))
