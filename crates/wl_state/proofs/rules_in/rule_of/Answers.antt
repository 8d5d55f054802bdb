use Rattle.std.proofs.Common.{Some, sym, ap, ◌∙◌}
use Rattle.wl_expr.specs.Stamped.{plain}
use Rattle.wl_state.specs.Replacing.{is_rule_head}
use Rattle.wl_state.proofs.ReadRules.{rule_is, rule_on, rule_pair}
use Rattle.wl_state.proofs.rules_in.rule_of.Goals as goal

pub returns-clause-rule : goal.returns-clause-rule
returns-clause-rule c =
    let e = plain c.args.e.now in
    let l = c.in-Some.left.now in
    let r = c.in-Some.right.now in
    ap Some c.in_ok-rule_from.ensures.rule
    ∙ sym (rule_is e ∙ rule_pair is_rule_head e (plain c.in-Node.head.now) c.in-Node.args.now l r c.in-Node.ensures.plain c.in-Some.ensures
    ∙ ap (λ b. rule_on b (plain l) (plain r)) (sym c.is_rule_head.ensures ∙ c.if-not-is_rule_head.false))
