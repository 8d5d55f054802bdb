use Rattle.std.proofs.Common.{[], ◌∷◌}
use Rattle.wl_expr.specs.Tree as full
use Rattle.wl_syntax.proofs.Building.{items_two}
use Rattle.wl_syntax.proofs.atoms.bound.Goals as goal

pub returns : goal.returns
returns c p h = rw (← c.is_empty.ensures, c.if-is_empty.false) (c.in_ok-named.ensures (full.symbol c.args.name.now ∷ p ∷ []) (items_two _ _ (full.symbol c.args.name.now) p c.in_ok-name.ensures h))

pub named-requires-clause-fits : goal.named-requires-clause-fits
named-requires-clause-fits c =
    let (p, h, w) = c.requires.fits in
    (full.symbol c.args.name.now ∷ p ∷ [], items_two _ _ (full.symbol c.args.name.now) p c.in_ok-name.ensures h, rw (← c.is_empty.ensures, c.if-is_empty.false) at w)
