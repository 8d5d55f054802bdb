use Rattle.std.proofs.Common.{codes, Some, sym, ap, ◌∙◌}
use Rattle.wl_expr.specs.Stamped.{plain}
use Rattle.wl_expr.specs.Words.{is_the}
use Rattle.wl_state.proofs.ReadRules.{delayed_is, rule_on, rule_pair}
use Rattle.wl_state.proofs.rules_in.delayed_rule.Goals as goal

pub returns-clause-rule : goal.returns-clause-rule
returns-clause-rule c =
    let e = plain c.args.e.now in
    let l = c.in-Some.left.now in
    let r = c.in-Some.right.now in
    ap Some c.in_ok-rule_from.ensures.rule
    ∙ sym (delayed_is e ∙ rule_pair (is_the (codes "RuleDelayed")) e (plain c.in-Node.head.now) c.in-Node.args.now l r c.in-Node.ensures.plain c.in-Some.ensures
    ∙ ap (λ b. rule_on b (plain l) (plain r)) (sym c.is_symbol.ensures ∙ c.if-not-is_symbol.false))
