use Rattle.std.proofs.Common.{Some, None, [], ◌∷◌, sym, ap, ◌∙◌, arith, subst}
use Rattle.std.proofs.lemmas.Str.Pattern.{strip_prefix_char}
use Rattle.wl_expr.specs.Stamped.{unstamped}
use Rattle.wl_syntax.specs.Atoms.{index}
use Rattle.wl_syntax.proofs.Building.{items_one}
use Rattle.wl_syntax.proofs.Marks.{slot_one, slot_two, slot_begins, slot_digits}
use Rattle.wl_expr.specs.Tree.{IsWithinLimits}
use Rattle.wl_syntax.proofs.atoms.slot.Goals as goal

pub returns-in_ok-named-in-Some-strip_prefix : goal.returns-in_ok-named-in-Some-strip_prefix
returns-in_ok-named-in-Some-strip_prefix c =
    c.in_ok-named-in-Some-strip_prefix.ensures (index c.in-Some-strip_prefix.digits.now ∷ []) (items_one _ (index c.in-Some-strip_prefix.digits.now) c.in_ok-place-in-Some-strip_prefix.ensures)
    ∙ ap unstamped (sym (slot_two _ _ _ (strip_prefix_char 35 _ (Some c.in-Some.rest) c.in-Some.ensures.cases (omega arith)) (strip_prefix_char 35 _ (Some c.in-Some-strip_prefix.digits) c.in-Some-strip_prefix.ensures.cases (omega arith))))

pub returns-in_ok-named-in-None : goal.returns-in_ok-named-in-None
returns-in_ok-named-in-None c =
    c.in_ok-named-in-None.ensures (index c.in-Some.rest.now ∷ []) (items_one _ (index c.in-Some.rest.now) c.in_ok-place-in-None.ensures)
    ∙ ap unstamped (sym (slot_one _ _ (strip_prefix_char 35 _ (Some c.in-Some.rest) c.in-Some.ensures.cases (omega arith)) (strip_prefix_char 35 _ None c.in-None.ensures.cases (omega arith))))

pub unreachable-requires : goal.unreachable-requires
unreachable-requires c = slot_begins _ c.requires.form (strip_prefix_char 35 _ None c.in_default.ensures.cases (omega arith))

pub named-requires-clause-fits : goal.named-requires-clause-fits
named-requires-clause-fits c = (
  index c.in-Some-strip_prefix.digits.now ∷ [],
  items_one _ (index c.in-Some-strip_prefix.digits.now) c.in_ok-place-in-Some-strip_prefix.ensures,
  subst IsWithinLimits (slot_two _ _ _ (strip_prefix_char 35 _ (Some c.in-Some.rest) c.in-Some.ensures.cases (omega arith)) (strip_prefix_char 35 _ (Some c.in-Some-strip_prefix.digits) c.in-Some-strip_prefix.ensures.cases (omega arith))) c.requires.fits,
)

pub named-requires-in-None-clause-fits : goal.named-requires-in-None-clause-fits
named-requires-in-None-clause-fits c = (
  index c.in-Some.rest.now ∷ [],
  items_one _ (index c.in-Some.rest.now) c.in_ok-place-in-None.ensures,
  subst IsWithinLimits (slot_one _ _ (strip_prefix_char 35 _ (Some c.in-Some.rest) c.in-Some.ensures.cases (omega arith)) (strip_prefix_char 35 _ None c.in-None.ensures.cases (omega arith))) c.requires.fits,
)

pub index-requires-in-None : goal.index-requires-in-None
index-requires-in-None c = slot_digits _ _ (strip_prefix_char 35 _ (Some c.in-Some.rest) c.in-Some.ensures.cases (omega arith)) (strip_prefix_char 35 _ None c.in-None.ensures.cases (omega arith)) c.requires.form
