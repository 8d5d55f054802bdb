use Rattle.std.proofs.Common.{Global, IfOk, Option, Vec, ◌≡◌, map, option_map, sym, ◌∙◌, subst}
use Rattle.wl_expr.specs.Stamped.{plain}
use Rattle.wl_rules.specs.StampedRules.{plain_rule}
use Rattle.wl_rules.specs.declared.rule.Rule.{Rule}
use Rattle.wl_state.proofs.ReadRules.{of_list}
use Rattle.wl_state.proofs.rules_in.rules_in.Goals as goal

pub returns-clause-rules : goal.returns-clause-rules
returns-clause-rules c =
    let is = of_list (plain c.args.e.now) (plain c.in-Node.head.now) c.in-Node.args.now c.in-Node.ensures.plain (sym c.is_symbol.ensures ∙ c.if-not-is_symbol.false) in
    subst (λ z. IfOk c.rules_of-2.result (λ (o : Option (Vec Rule Global)). option_map (λ (v : Vec Rule Global). map plain_rule v.items) o ≡ z)) (sym is) c.rules_of-2.ensures.rules
