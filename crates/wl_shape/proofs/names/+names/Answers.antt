use Rattle.std.proofs.Common.{sym, ◌∙◌, arith, subst}
use Rattle.std.proofs.lemmas.Result.{on_ok_weaker}
use Rattle.wl_expr.specs.Stamped.{plain, plains, from_list}
use Rattle.wl_shape.specs.Fill.{names, names_all}
use Rattle.wl_shape.specs.Names.{HasMore}
use Rattle.wl_shape.proofs.Sets.{next_names, last_names, head_then_all}
use Rattle.wl_shape.proofs.names.+names.Goals as goal

pub add_names-returns-in_ok-add_names-in-Node : goal.add_names-returns-in_ok-add_names-in-Node
add_names-returns-in_ok-add_names-in-Node t c =
    on_ok_weaker c.add_all_names.result (λ m. subst (λ e. HasMore c.args.names.now.keys c.add_all_names.new.names.keys (names e)) c.in-Node.ensures.plain
    (head_then_all c.args.names.now.keys c.add_names.new.names.keys c.add_all_names.new.names.keys (plain c.in-Node.head.now) (names_all (plains (from_list c.in-Node.args.now))) c.in_ok-add_names-in-Node.ensures m)) c.add_all_names.ensures

pub add_all_names-loop-arg-preserved : goal.add_all_names-loop-arg-preserved
add_all_names-loop-arg-preserved t c = λ x. c.loop-arg.invariant x
    ∙ next_names c.args.args.now c.loop-arg.arg-index c.arg-item.result c.loop-arg.names.keys c.add_names.new.names.keys c.loop-arg-test.true c.arg-item.is c.in_ok-add_names.ensures x

pub add_all_names-returns : goal.add_all_names-returns
add_all_names-returns t c = λ x. sym (c.loop-arg.invariant x ∙ last_names c.args.args.now c.loop-arg.arg-index c.loop-arg.names.keys x (omega (arith, c.loop-arg-test.false)))
