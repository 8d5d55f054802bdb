use Rattle.std.proofs.Common.{◌∷◌, [], sym, ap, ◌∙◌, refl, subst}
use Rattle.wl_expr.specs.Stamped.{unstamped}
use Rattle.wl_syntax.proofs.Building.{items_two, colon_other}
use Rattle.wl_expr.specs.Tree.{IsWithinLimits}
use Rattle.wl_syntax.proofs.lower.colon.Goals as goal

pub returns-in_ok-named-in-Name : goal.returns-in_ok-named-in-Name
returns-in_ok-named-in-Name c l r p q = rw c.in-Name.is (c.in_ok-named-in-Name.ensures (l ∷ r ∷ []) (items_two _ _ l r p q))

pub returns-in_ok-named-in_default : goal.returns-in_ok-named-in_default
returns-in_ok-named-in_default c l r p q = c.in_ok-named-in_default.ensures (l ∷ r ∷ []) (items_two _ _ l r p q) ∙ ap unstamped (sym (colon_other _ c.in_default.not-Name l r))

pub named-requires-clause-fits : goal.named-requires-clause-fits
named-requires-clause-fits c = let (l, r, p, q, w) = c.requires in (l ∷ r ∷ [], items_two _ _ l r p q, rw c.in-Name.is at w)

pub named-requires-in_default : goal.named-requires-in_default
named-requires-in_default c = let (l, r, p, q, w) = c.requires in record { head = refl; fits = (l ∷ r ∷ [], items_two _ _ l r p q, subst IsWithinLimits (colon_other _ c.in_default.not-Name l r) w) }
