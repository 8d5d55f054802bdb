use Rattle.std.proofs.Common.{◌-◌, length, take, drop, sym, ap, ◌∙◌, subst}
use Rattle.wl_exact.specs.Arithmetic.{fraction_cmp}
use Rattle.wl_expr.specs.Stamped.{plain}
use Rattle.wl_algebra.specs.Answers.{IsAnswer, trees}
use Rattle.wl_algebra.specs.Comparisons.{inequality_row}
use Rattle.wl_algebra.specs.Kinds.{relation_by}
use Rattle.wl_algebra.proofs.Chains.{chain_on, chain_begins, chain_step, chain_ends, still_holds, holds_no_more}
use Rattle.wl_algebra.proofs.Splits.{first_and_rest, two_and_rest}
use Rattle.wl_algebra.proofs.comparisons.inequality_row.Goals as goal

pub loop-left-init : goal.loop-left-init
loop-left-init c =
    let xs = c.args.args.now in
    let rest = take (length xs - 1) (drop 1 xs) in
    ap (λ ys. inequality_row (trees ys)) (first_and_rest xs c.first-item.result c.in-len1-up.len_at_least c.first-item.is)
    ∙ chain_begins (plain c.first-item.result) rest c.in-Some.previous c.if-rest-eq0.false c.in-Some.ensures

pub loop-left-preserved-then-all_hold : goal.loop-left-preserved-then-all_hold
loop-left-preserved-then-all_hold c =
    let xs = c.loop-left.left.now in
    let f = relation_by c.in-Some-relation_of.relation in
    c.loop-left.invariant
    ∙ ap (λ ys. chain_on c.loop-left.all_hold c.loop-left.previous (trees ys)) (two_and_rest xs c.sign-item.result c.operand-item.result c.in-len2-up.len_at_least c.sign-item.is c.operand-item.is)
    ∙ chain_step c.loop-left.all_hold c.holds-all_hold.result c.loop-left.previous c.in-Some-number.n (plain c.sign-item.result) (plain c.operand-item.result) (trees (take (length xs - 2) (drop 2 xs))) f
    c.in-Some-relation_of.ensures c.in-Some-number.ensures
    (still_holds c.loop-left.all_hold c.holds-all_hold.result (f (fraction_cmp c.loop-left.previous c.in-Some-number.n)) c.if-all_hold.true c.holds-all_hold.ensures)

pub loop-left-preserved : goal.loop-left-preserved
loop-left-preserved c =
    let xs = c.loop-left.left.now in
    let f = relation_by c.in-Some-relation_of.relation in
    c.loop-left.invariant
    ∙ ap (λ ys. chain_on c.loop-left.all_hold c.loop-left.previous (trees ys)) (two_and_rest xs c.sign-item.result c.operand-item.result c.in-len2-up.len_at_least c.sign-item.is c.operand-item.is)
    ∙ chain_step c.loop-left.all_hold c.loop-left.all_hold c.loop-left.previous c.in-Some-number.n (plain c.sign-item.result) (plain c.operand-item.result) (trees (take (length xs - 2) (drop 2 xs))) f
    c.in-Some-relation_of.ensures c.in-Some-number.ensures
    (holds_no_more c.loop-left.all_hold (f (fraction_cmp c.loop-left.previous c.in-Some-number.n)) c.if-all_hold.false)

pub returns-else-left-eq0-clause-answer : goal.returns-else-left-eq0-clause-answer
returns-else-left-eq0-clause-answer c =
    subst (λ a. IsAnswer a c.stay-else-left-eq0.result)
    (sym (c.loop-left.invariant ∙ chain_ends c.loop-left.all_hold c.loop-left.previous c.loop-left.left.now c.in_default-left.len_below c.if-left-eq0.false))
    c.stay-else-left-eq0.ensures.answer
