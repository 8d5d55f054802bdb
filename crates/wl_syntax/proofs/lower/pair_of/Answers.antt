use Rattle.std.proofs.Common.{◌∷◌, [], sym, ap, ◌∙◌, subst}
use Rattle.std.specs.Prelude.{codes}
use Rattle.wl_expr.specs.Stamped.{unstamped}
use Rattle.wl_syntax.specs.Atoms.{named}
use Rattle.wl_syntax.specs.Lower.{as_text, minus_one}
use Rattle.wl_syntax.proofs.Building.{items_one, items_two, pair_other, tag_other}
use Rattle.wl_expr.specs.Tree.{IsWithinLimits}
use Rattle.wl_syntax.proofs.Heads.{infix_head}
use Rattle.wl_syntax.proofs.Limits.{second_fits}
use Rattle.wl_syntax.proofs.lower.pair_of.Goals as goal

pub returns-in_ok-named-in-Message : goal.returns-in_ok-named-in-Message
returns-in_ok-named-in-Message c l r p q = rw c.in-Message.is (c.in_ok-named-in-Message.ensures (l ∷ as_text r ∷ []) (items_two _ _ l (as_text r) p (c.in_ok-tag-in-Message.ensures r q)))

pub returns-in_ok-node-in-Of : goal.returns-in_ok-node-in-Of
returns-in_ok-node-in-Of c l r p q = rw c.in-Of.is (c.in_ok-node-in-Of.ensures l (r ∷ []) p (items_one _ r q))

pub returns-in_ok-node-in-Into : goal.returns-in_ok-node-in-Into
returns-in_ok-node-in-Into c l r p q = rw c.in-Into.is (c.in_ok-node-in-Into.ensures r (l ∷ []) q (items_one _ l p))

pub returns-in_ok-named-in-Divide : goal.returns-in_ok-named-in-Divide
returns-in_ok-named-in-Divide c l r p q =
    rw c.in-Divide.is (c.in_ok-named-in-Divide.ensures (l ∷ named (codes "Power") (r ∷ minus_one ∷ []) ∷ [])
    (items_two _ _ l (named (codes "Power") (r ∷ minus_one ∷ [])) p (c.in_ok-inverse-in-Divide.ensures (r ∷ minus_one ∷ []) (items_two _ _ r minus_one q c.in_ok-minus_one-in-Divide.ensures))))

pub returns-in_ok-named-in_default-right_form : goal.returns-in_ok-named-in_default-right_form
returns-in_ok-named-in_default-right_form c l r p q = rw c.in-Tag.is (rw (c.infix_name.ensures, c.in-Tag.is) at (c.in_ok-named-in_default-right_form.ensures (l ∷ r ∷ []) (items_two _ _ l r p q)) ∙ ap unstamped (sym (tag_other c.args.left_form _ l r c.in_default-right_form.not-Defines)))

pub returns-in_ok-named-in_default : goal.returns-in_ok-named-in_default
returns-in_ok-named-in_default c l r p q =
    rw c.infix_name-in_default.ensures at (c.in_ok-named-in_default.ensures (l ∷ r ∷ []) (items_two _ _ l r p q))
    ∙ ap unstamped (sym (pair_other _ _ _ l r c.in_default.not-Message c.in_default.not-Of c.in_default.not-Into c.in_default.not-Divide c.in_default.not-Colon c.in_default.not-Tag))

pub named-requires-clause-fits : goal.named-requires-clause-fits
named-requires-clause-fits c = let (l, r, p, q, w) = c.requires in (l ∷ as_text r ∷ [], items_two _ _ l (as_text r) p (c.in_ok-tag-in-Message.ensures r q), rw c.in-Message.is at w)

pub node-requires : goal.node-requires
node-requires c = let (l, r, p, q, w) = c.requires in (l, r ∷ [], p, items_one _ r q, rw c.in-Of.is at w)

pub node-requires-in-Into : goal.node-requires-in-Into
node-requires-in-Into c = let (l, r, p, q, w) = c.requires in (r, l ∷ [], q, items_one _ l p, rw c.in-Into.is at w)

pub named-requires-in-Divide-clause-fits : goal.named-requires-in-Divide-clause-fits
named-requires-in-Divide-clause-fits c = let (l, r, p, q, w) = c.requires in (r ∷ minus_one ∷ [], items_two _ _ r minus_one q c.in_ok-minus_one-in-Divide.ensures, second_fits _ _ _ (rw c.in-Divide.is at w))

pub named-requires-in-Divide-2-clause-fits : goal.named-requires-in-Divide-2-clause-fits
named-requires-in-Divide-2-clause-fits c =
    let (l, r, p, q, w) = c.requires in
    (l ∷ named (codes "Power") (r ∷ minus_one ∷ []) ∷ [], items_two _ _ l (named (codes "Power") (r ∷ minus_one ∷ [])) p (c.in_ok-inverse-in-Divide.ensures (r ∷ minus_one ∷ []) (items_two _ _ r minus_one q c.in_ok-minus_one-in-Divide.ensures)), rw c.in-Divide.is at w)

pub named-requires-in_default-right_form : goal.named-requires-in_default-right_form
named-requires-in_default-right_form c =
    let (l, r, p, q, w) = c.requires in record {
      head = rw c.infix_name.ensures (infix_head c.args.operator);
      fits = (l ∷ r ∷ [], items_two _ _ l r p q, rw (c.infix_name.ensures, c.in-Tag.is) (subst IsWithinLimits (tag_other c.args.left_form _ l r c.in_default-right_form.not-Defines) (rw c.in-Tag.is at w)));
    }

pub named-requires-in_default : goal.named-requires-in_default
named-requires-in_default c =
    let (l, r, p, q, w) = c.requires in record {
      head = rw c.infix_name-in_default.ensures (infix_head c.args.operator);
      fits = (l ∷ r ∷ [], items_two _ _ l r p q, rw c.infix_name-in_default.ensures (subst IsWithinLimits (pair_other _ _ _ l r c.in_default.not-Message c.in_default.not-Of c.in_default.not-Into c.in_default.not-Divide c.in_default.not-Colon c.in_default.not-Tag) w));
    }
