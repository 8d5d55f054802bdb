use Rattle.std.proofs.Common.{◌∷◌, [], sym, ap, ◌∙◌, subst}
use Rattle.wl_expr.specs.Stamped.{unstamped}
use Rattle.wl_syntax.specs.Lower.{minus_one, whole}
use Rattle.wl_syntax.proofs.Building.{items_two, items_more, negative_product, negative_other}
use Rattle.wl_expr.specs.Tree.{IsWithinLimits}
use Rattle.wl_syntax.proofs.Limits.{unnegated_fits}
use Rattle.wl_syntax.proofs.lower.negative.Goals as goal

pub returns-then-is_product : goal.returns-then-is_product
returns-then-is_product c es e =
    rw c.in-None.is (c.in_ok-named-in-None.ensures (minus_one ∷ es) (c.deref.ensures.value ∙ c.in_ok-all-in-None.ensures ∙ items_more _ _ minus_one es c.in_ok-minus_one-in-None.ensures e)
    ∙ ap unstamped (sym (negative_product c.args.form es (sym c.is_product.ensures ∙ c.if-is_product.true))))

pub returns-in_ok-named-in-None-2 : goal.returns-in_ok-named-in-None-2
returns-in_ok-named-in-None-2 c es e =
    rw c.in-None.is (c.in_ok-named-in-None-2.ensures (minus_one ∷ whole c.args.form es ∷ []) (items_two _ _ minus_one (whole c.args.form es) c.in_ok-minus_one-in-None.ensures (c.in_ok-positive-in-None.ensures es e))
    ∙ ap unstamped (sym (negative_other c.args.form es (sym c.is_product.ensures ∙ c.if-is_product.false))))

pub whole-requires : goal.whole-requires
whole-requires c = let (es, p, w) = c.requires in (es, p, unnegated_fits c.in-Some.steps (whole c.args.form es) (rw c.in-Some.is at w))

pub negated_at-requires : goal.negated_at-requires
negated_at-requires c = let (es, p, w) = c.requires in (whole c.args.form es, c.in_ok-positive-in-Some.ensures es p, unnegated_fits c.in-Some.steps (whole c.args.form es) (rw c.in-Some.is at w))

pub named-requires-clause-fits : goal.named-requires-clause-fits
named-requires-clause-fits c =
    let (es, p, w) = c.requires in
    (minus_one ∷ es, c.deref.ensures.value ∙ c.in_ok-all-in-None.ensures ∙ items_more _ _ minus_one es c.in_ok-minus_one-in-None.ensures p, subst IsWithinLimits (negative_product c.args.form es (sym c.is_product.ensures ∙ c.if-is_product.true)) (rw c.in-None.is at w))

pub named-requires-in-None-clause-fits : goal.named-requires-in-None-clause-fits
named-requires-in-None-clause-fits c =
    let (es, p, w) = c.requires in
    (minus_one ∷ whole c.args.form es ∷ [], items_two _ _ minus_one (whole c.args.form es) c.in_ok-minus_one-in-None.ensures (c.in_ok-positive-in-None.ensures es p), subst IsWithinLimits (negative_other c.args.form es (sym c.is_product.ensures ∙ c.if-is_product.false)) (rw c.in-None.is at w))
