use Rattle.std.proofs.Common.{◌+◌, [], ◌∷◌, drop, map, option_map, sym, ap, ◌∙◌, subst, arith}
use Rattle.std.proofs.lemmas.List.{map-append}
use Rattle.std.proofs.lemmas.List.Elements.{All-push}
use Rattle.std.specs.List.{All}
use Rattle.wl_expr.specs.Passed.{IsFrom}
use Rattle.wl_expr.specs.Stamped.{plain}
use Rattle.wl_rules.specs.StampedRules.{plain_rule}
use Rattle.wl_semantics.specs.MatchRows as rows
use Rattle.wl_state.specs.Replacing.{IsRuleFrom, MaybeRuleFrom}
use Rattle.wl_state.proofs.ReadRules.{rules_next, with_rules}
use Rattle.wl_state.proofs.rules_in.rules_of.Goals as goal

pub loop-i-preserved : goal.loop-i-preserved
loop-i-preserved c =
    let l = c.loop-i in
    let xs = c.args.parts.now in
    let x = c.index-parts-i.result in
    let r = c.in-Some.rule in
    let before = l.rules.items in
    let p = c.in_ok-push.ensures.items in
    record {
      rules = l.invariant.rules
          ∙ rules_next (map plain_rule before) (plain_rule r) xs l.i x (omega arith) c.index-parts-i.is (ap (option_map plain_rule) (sym c.in-Some.is) ∙ c.in_ok-rule.ensures.rule)
          ∙ ap (λ rs. with_rules rs (rows.rules_of (map plain (drop (l.i + 1) xs)))) (sym (ap (map plain_rule) p ∙ map-append plain_rule before (r ∷ [])));
      passed = λ ms h.
          subst (All (IsRuleFrom ms)) (sym p)
          (All-push (IsRuleFrom ms) before r (l.invariant.passed ms h) (subst (MaybeRuleFrom ms) c.in-Some.is (c.in_ok-rule.ensures.passed ms (subst (IsFrom ms) (sym c.index-parts-i.is) (h l.i x (omega arith))))));
    }
