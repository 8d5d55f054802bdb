use Rattle.std.proofs.Common.{List, sym, ap, ◌∙◌, subst}
use Rattle.wl_expr.proofs.Parts.{to_list_plains}
use Rattle.wl_expr.specs.Passed.{IsFrom}
use Rattle.wl_expr.specs.Stamped.{plain}
use Rattle.wl_expr.specs.Tree.{Tree}
use Rattle.wl_algebra.specs.Answers.{IsAnswer, trees}
use Rattle.wl_algebra.specs.Powers.{integer_power, node_power}
use Rattle.wl_expr.specs.Words.{whole}
use Rattle.wl_algebra.proofs.Factors.{whole_tree}
use Rattle.wl_algebra.proofs.powers.integer_power.Goals as goal

pub returns-in-Num-clause-passed : goal.returns-in-Num-clause-passed
returns-in-Num-clause-passed c = λ ms h. c.number_power.ensures.passed ms

pub returns-in_ok-exponent-in-Node-clause-answer : goal.returns-in_ok-exponent-in-Node-clause-answer
returns-in_ok-exponent-in-Node-clause-answer c =
    let r = c.node_power.result in
    let h = plain c.in-Node.head.now in
    let xs = c.in-Node.args.now in
    let n = c.args.n.now in
    let e = ap plain c.in_ok-exponent-in-Node.ensures ∙ whole_tree n c.requires.whole in
    subst (λ (t : Tree). IsAnswer (integer_power t n.num) r) c.in-Node.ensures.plain
    (subst (λ (us : List Tree). IsAnswer (node_power h us (whole n.num)) r) (sym (to_list_plains xs))
    (subst (λ (x : Tree). IsAnswer (node_power h (trees xs) x) r) e c.node_power.ensures.answer))

pub returns-in_ok-exponent-in-Node-clause-passed : goal.returns-in_ok-exponent-in-Node-clause-passed
returns-in_ok-exponent-in-Node-clause-passed c =
    λ ms h. c.node_power.ensures.passed ms (c.in-Node.ensures.passed ms h).1 (subst (IsFrom ms) (sym c.in_ok-exponent-in-Node.ensures) tt)
