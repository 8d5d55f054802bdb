use Rattle.std.proofs.Common.{sym, ◌∙◌, ap, arith}
use Rattle.wl_expr.proofs.Parts.{to_list_plains, depth_arg}
use Rattle.wl_expr.specs.Stamped.{Stamped, plain, plains, from_list}
use Rattle.wl_expr.specs.Tree.{depth, weights}
use Rattle.wl_rules.specs.Key.{Key, part, parts}
use Rattle.wl_rules.proofs.Keys.{weight_positive, tests_le-weight, tests_le-weights, first_tests, second_key_short, joined_none, joined_assoc, plains_drop, any_put, any_passed, is_special-others}
use Rattle.wl_rules.proofs.key.+key.Goals as goal
use Rattle.wl_rules.proofs.key.+key.Goals.{put_all-then-branch, put_all-else-branch}

pub put_node-put_special-requires : goal.put_node-put_special-requires
put_node-put_special-requires t c = (omega arith, (is_special-others c.of-form.result c.in_default.not-Ordinary, omega (arith, weight_positive (plain c.args.head.now))))

pub put_ordinary-put_all-requires : goal.put_ordinary-put_all-requires
put_ordinary-put_all-requires t c = (omega arith, omega (arith, tests_le-weight (plain c.args.head.now), ap (λ (k : Key). k.tests) c.in_ok-head_has.ensures.key, ap (λ (k : Key). k.tests) c.in_ok-put.ensures))

pub put_part-returns-in-Node-clause-key : goal.put_part-returns-in-Node-clause-key
put_part-returns-in-Node-clause-key t c = rw (← c.in-Node.ensures.plain, to_list_plains c.in-Node.args.now) c.put_node.ensures.key

pub put_part-returns-in-Node-clause-has : goal.put_part-returns-in-Node-clause-has
put_part-returns-in-Node-clause-has t c = rw (← c.in-Node.ensures.plain, to_list_plains c.in-Node.args.now) c.put_node.ensures.has

pub put_second-returns-in_default : goal.put_second-returns-in_default
put_second-returns-in_default t c = rw (second_key_short c.args.args.now c.in_default.len_below) (sym (joined_none c.args.key.now))

pub put_tested-count_test-requires : goal.put_tested-count_test-requires
put_tested-count_test-requires t c = omega (arith, first_tests (parts (plains (from_list c.args.args.now))), tests_le-weights (plains (from_list c.args.args.now)), ap (λ (k : Key). k.tests) c.in_ok-put_first.ensures)

pub put_all-put_part-requires : goal.put_all-put_part-requires
put_all-put_part-requires t c =
    let rest = plains_drop c.args.args.now c.loop-arg.arg-index c.arg-item.result (omega arith) (cc) in
    (omega (arith, depth_arg c.args.args.now c.loop-arg.arg-index c.arg-item.result (omega arith), ap (λ (u : Stamped). depth (plain u)) c.arg-item.is), omega (arith, ap weights rest, c.loop-arg.invariant.room))

pub put_all-loop-arg-preserved : goal.put_all-loop-arg-preserved
put_all-loop-arg-preserved t c =
    let rest = plains_drop c.args.args.now c.loop-arg.arg-index c.arg-item.result (omega arith) (cc) in
    record {
      key = rw (c.in_ok-put_part.ensures.key, joined_assoc c.loop-arg.key (part (plain c.arg-item.result)).key) (rw rest at c.loop-arg.invariant.key);
      has = elim c.if-branch.branch [
        | put_all-then-branch w ↦ rw w.has-is (any_put c.loop-arg.has (part (plain c.arg-item.result)).has_patterns _ _ (sym c.in_ok-put_part.ensures.has ∙ w.if-branch.true) (rw rest at c.loop-arg.invariant.has))
        | put_all-else-branch w ↦ rw w.has-is (any_passed c.loop-arg.has (part (plain c.arg-item.result)).has_patterns _ _ (sym c.in_ok-put_part.ensures.has ∙ w.if-branch.false) (rw rest at c.loop-arg.invariant.has))
      ];
      room = omega (arith, ap (λ (k : Key). k.tests) c.in_ok-put_part.ensures.key, tests_le-weight (plain c.arg-item.result), ap weights rest, c.loop-arg.invariant.room);
    }
