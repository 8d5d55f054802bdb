use Rattle.std.proofs.Common.{refl, [], ◌∷◌}
use Rattle.wl_expr.specs.Tree as full
use Rattle.wl_syntax.proofs.Building.{items_one}
use Rattle.wl_syntax.proofs.atoms.blank.Goals as goal

pub returns-then-is_empty : goal.returns-then-is_empty
returns-then-is_empty c = rw (← c.is_empty.ensures, c.if-is_empty.true) (c.in_ok-named.ensures [] refl)

pub returns-then-eq : goal.returns-then-eq
returns-then-eq c = rw (← c.is_empty.ensures, c.if-is_empty.false, ← c.eq.ensures, c.if-eq.true) (c.in_ok-named-2.ensures [] refl)

pub returns : goal.returns
returns c = rw (← c.is_empty.ensures, c.if-is_empty.false, ← c.eq.ensures, c.if-eq.false) (c.in_ok-named-3.ensures (full.symbol c.args.head.now ∷ []) (items_one _ (full.symbol c.args.head.now) c.in_ok-head.ensures))

pub named-requires-2-clause-fits : goal.named-requires-2-clause-fits
named-requires-2-clause-fits c = (full.symbol c.args.head.now ∷ [], items_one _ (full.symbol c.args.head.now) c.in_ok-head.ensures, rw (← c.is_empty.ensures, c.if-is_empty.false, ← c.eq.ensures, c.if-eq.false) at c.requires.fits)
