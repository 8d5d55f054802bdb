use Rattle.std.proofs.Common.{arith}
use Rattle.wl_expr.proofs.Items.{one_item, two_items}
use Rattle.wl_state.proofs.Catching.{throw_one, throw_others, throw_two}
use Rattle.wl_state.proofs.RowParts.{row_stays}
use Rattle.wl_state.proofs.end_rows.throw_row.Goals as goal

pub returns-then-args-eq1 : goal.returns-then-args-eq1
returns-then-args-eq1 c = λ k h.
    let es = c.args.args.now in
    let v = c.index-args-0.result in
    throw_one k es v c.in_ok-v.v (one_item es v (omega (arith, c.if-args-eq1.true)) c.index-args-0.is) c.in_ok-v.ensures h

pub returns : goal.returns
returns c = λ k h. row_stays _ k (throw_others c.args.args.now (λ e. omega (arith, e, c.if-args-eq1.false)) (λ e. omega (arith, e, c.if-args-eq2.false)))

pub returns-then-args-eq2 : goal.returns-then-args-eq2
returns-then-args-eq2 c = λ k h.
    let es = c.args.args.now in
    let v = c.index-args-0-then-args-eq2.result in
    let t = c.index-args-1.result in
    throw_two k es v t c.in_ok-v-2.v c.in_ok-tag.tag (two_items es v t (omega (arith, c.if-args-eq2.true)) c.index-args-0-then-args-eq2.is c.index-args-1.is) c.in_ok-v-2.ensures c.in_ok-tag.ensures h
