use Rattle.std.proofs.Common.{rules, ◌≡◌, ◌++◌, ◌∷◌, [], ap, ◌∙◌, arith}
use Rattle.wl_expr.specs.Stamped.{plain}
use Rattle.wl_expr.specs.Tree.{weights, from_list}
use Rattle.wl_shape.specs.Answers.{trees}
use Rattle.wl_shape.proofs.Faults.{fault_passed_on}
use Rattle.wl_shape.proofs.Threads.{thread_made, thread_large, threads_heavy, next_from, weights_push}
use Rattle.wl_shape.proofs.threading.nodes.Goals as goal

pub returns-in_err-node-clause-large : goal.returns-in_err-node-clause-large
returns-in_err-node-clause-large c = λ l.
    let w = fault_passed_on c.in_err-node.field-0.0 c.node_at.result c.from_residual.result c.in_err-node.was c.from_residual.ensures.1 l in
    thread_large (plain c.args.head.now) (trees c.args.args.now) _ c.loop-k.all.items c.loop-k.k c.args.count c.loop-k.invariant.value c.loop-k-test.true (c.node_at.ensures.made.large w)

pub returns-then-weight-gt-MAX_WEIGHT-clause-large : goal.returns-then-weight-gt-MAX_WEIGHT-clause-large
returns-then-weight-gt-MAX_WEIGHT-clause-large c = λ l.
    threads_heavy (plain c.args.head.now) (trees c.args.args.now) _ c.loop-k.all.items c.loop-k.k c.args.count c.in_ok-node.node c.loop-k.invariant.value c.loop-k-test.true c.in_ok-node.ensures.made.tree
    (omega (arith, c.loop-k.invariant.weight, c.weight-weight.ensures.value, c.if-weight-gt-MAX_WEIGHT.true))

pub loop-k-preserved : goal.loop-k-preserved
loop-k-preserved c =
    let before = c.loop-k.all.items in
    let made = c.in_ok-node.node in
    let a : c.push.new.self.items ≡ before ++ made ∷ [] = search rules in
    let heavier = ap (λ us. weights (from_list (trees us))) a ∙ weights_push before made in
    record {
      value = thread_made (plain c.args.head.now) (trees c.args.args.now) _ before c.push.new.self.items c.loop-k.k c.args.count made c.loop-k.invariant.value c.loop-k-test.true a c.in_ok-node.ensures.made.tree;
      weight = omega (arith, heavier, c.loop-k.invariant.weight, c.weight-weight.ensures.value);
      light = omega (arith, c.if-weight-gt-MAX_WEIGHT.false);
      passed = λ ms f g. next_from ms before c.push.new.self.items made (c.loop-k.invariant.passed ms f g) (c.in_ok-node.ensures.passed ms f g) a;
    }
