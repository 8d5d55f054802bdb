use Rattle.std.proofs.Common.{Some, None, [], ◌∷◌, refl, sym, ap, ◌∙◌, length, arith, rules, subst}
use Rattle.std.proofs.lemmas.Str.Pattern.{strip_prefix_char, drop_at_char}
use Rattle.std.specs.Prelude.{pos, neg_ℤ}
use Rattle.wl_expr.specs.Stamped.{unstamped}
use Rattle.wl_scan.specs.Literals.{literal_value}
use Rattle.wl_syntax.specs.Atoms.{whole_number}
use Rattle.wl_syntax.proofs.Building.{items_one}
use Rattle.wl_syntax.proofs.Marks.{output_alone, output_back, output_line, output_begins, output_digits}
use Rattle.wl_expr.specs.Tree.{IsWithinLimits}
use Rattle.wl_syntax.proofs.atoms.output.Goals as goal

pub returns-then-is_empty : goal.returns-then-is_empty
returns-then-is_empty c =
    c.in_ok-named.ensures [] refl
    ∙ ap unstamped (sym (output_alone _ _ (strip_prefix_char 37 _ (Some c.in-Some.rest) c.in-Some.ensures.cases (omega arith)) (search rules)))

pub returns-in_ok-named-in-Some-strip_prefix : goal.returns-in_ok-named-in-Some-strip_prefix
returns-in_ok-named-in-Some-strip_prefix c =
    c.in_ok-named-in-Some-strip_prefix.ensures (whole_number (neg_ℤ (pos (length c.args.token.now))) ∷ []) (items_one _ (whole_number (neg_ℤ (pos (length c.args.token.now)))) (search rules))
    ∙ ap unstamped (sym (output_back _ _ _ (strip_prefix_char 37 _ (Some c.in-Some.rest) c.in-Some.ensures.cases (omega arith)) (drop_at_char 37 c.in-Some.rest.now 0 _ c.in-Some-strip_prefix.ensures.cases.1 (omega arith))))

pub returns-in_ok-named-in-None : goal.returns-in_ok-named-in-None
returns-in_ok-named-in-None c =
    c.in_ok-named-in-None.ensures (whole_number (pos (literal_value c.in-Some.rest.now)) ∷ []) (items_one _ (whole_number (pos (literal_value c.in-Some.rest.now))) c.in_ok-line-in-None.ensures)
    ∙ ap unstamped (sym (output_line _ _ (strip_prefix_char 37 _ (Some c.in-Some.rest) c.in-Some.ensures.cases (omega arith)) (search rules) (strip_prefix_char 37 _ None c.in-None.ensures.cases (omega arith))))

pub unreachable-requires : goal.unreachable-requires
unreachable-requires c = output_begins _ c.requires.form (strip_prefix_char 37 _ None c.in_default.ensures.cases (omega arith))

pub named-requires-clause-fits : goal.named-requires-clause-fits
named-requires-clause-fits c = ([], refl, subst IsWithinLimits (output_alone _ _ (strip_prefix_char 37 _ (Some c.in-Some.rest) c.in-Some.ensures.cases (omega arith)) (search rules)) c.requires.fits)

pub named-requires-in-Some-strip_prefix-clause-fits : goal.named-requires-in-Some-strip_prefix-clause-fits
named-requires-in-Some-strip_prefix-clause-fits c = (
  whole_number (neg_ℤ (pos (length c.args.token.now))) ∷ [],
  items_one _ (whole_number (neg_ℤ (pos (length c.args.token.now)))) (search rules),
  subst IsWithinLimits (output_back _ _ _ (strip_prefix_char 37 _ (Some c.in-Some.rest) c.in-Some.ensures.cases (omega arith)) (drop_at_char 37 c.in-Some.rest.now 0 _ c.in-Some-strip_prefix.ensures.cases.1 (omega arith))) c.requires.fits,
)

pub named-requires-in-None-clause-fits : goal.named-requires-in-None-clause-fits
named-requires-in-None-clause-fits c = (
  whole_number (pos (literal_value c.in-Some.rest.now)) ∷ [],
  items_one _ (whole_number (pos (literal_value c.in-Some.rest.now))) c.in_ok-line-in-None.ensures,
  subst IsWithinLimits (output_line _ _ (strip_prefix_char 37 _ (Some c.in-Some.rest) c.in-Some.ensures.cases (omega arith)) (search rules) (strip_prefix_char 37 _ None c.in-None.ensures.cases (omega arith))) c.requires.fits,
)

pub number-requires : goal.number-requires
number-requires c = output_digits _ _ (strip_prefix_char 37 _ (Some c.in-Some.rest) c.in-Some.ensures.cases (omega arith)) (strip_prefix_char 37 _ None c.in-None.ensures.cases (omega arith)) c.requires.form
