use Rattle.wl_syntax.proofs.Pieces.{built_begin, built_next, built_tree, whole_lowers, deep_deep, args_deep, built}
use Rattle.std.proofs.Common.{subst, map, [], take}
use Rattle.wl_syntax.specs.Built.{Is, tree, pieces}
use Rattle.wl_syntax.specs.Polish.{node_of}
use Rattle.wl_syntax.proofs.SmallTrees.{small_next, group_fits}
use Rattle.wl_syntax.proofs.build.build_expr.Goals as goal

pub loop-node-init : goal.loop-node-init
loop-node-init c = built_begin c.args.nodes.now _ c.new-stack.ensures.items

pub loop-node-preserved : goal.loop-node-preserved
loop-node-preserved c = built_next _ _ _ _ _ c.loop-node.invariant c.loop-node-test.true c.in_ok-step.ensures

pub returns-in-Whole : goal.returns-in-Whole
returns-in-Whole c t e = whole_lowers _ c.in-Whole.group t _ _ c.in-Whole.is (built_tree _ _ _ _ _ c.loop-node.invariant c.loop-node.auto.node-index-end c.loop-node-test.false c.take.ensures t e) c.deref.ensures.value c.in_ok-whole-in-Whole.ensures

pub returns-in-Args : goal.returns-in-Args
returns-in-Args c t e = args_deep _ _ t c.in-Args.is (built_tree _ _ _ _ _ c.loop-node.invariant c.loop-node.auto.node-index-end c.loop-node-test.false c.take.ensures t e)

pub returns : goal.returns
returns c t e = deep_deep _ t c.in-Deep.is (built_tree _ _ _ _ _ c.loop-node.invariant c.loop-node.auto.node-index-end c.loop-node-test.false c.take.ensures t e)

pub step-requires : goal.step-requires
step-requires c = let (t, e, s) = c.requires in (built (pieces []) (take c.loop-node.node-index (map node_of c.args.nodes.now)), c.loop-node.invariant, small_next c.args.nodes.now c.loop-node.node-index _ t c.loop-node-test.true e s)

pub whole-requires : goal.whole-requires
whole-requires c =
    let (t, e, s) = c.requires in
    group_fits c.in-Whole.group t _ (subst (λ j. Is j (tree t)) c.in-Whole.is (built_tree _ _ _ _ _ c.loop-node.invariant c.loop-node.auto.node-index-end c.loop-node-test.false c.take.ensures t e)) c.deref.ensures.value s
