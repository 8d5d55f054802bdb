use Rattle.std.proofs.Common.{Some, [], ◌∷◌, sym, ap, ◌∙◌, arith, subst, ◌<◌, length, None}
use Rattle.std.proofs.lemmas.Str.Pattern.{split_once_first}
use Rattle.wl_expr.specs.Stamped.{unstamped}
use Rattle.wl_syntax.specs.Atoms.{bound, blanks}
use Rattle.wl_syntax.proofs.Building.{items_one}
use Rattle.wl_syntax.proofs.Marks.{pattern_optional, pattern_is, bound_fits, blanks_fit}
use Rattle.std.specs.Prelude.{◌≢◌, codes}
use Rattle.wl_expr.specs.Tree.{IsWithinLimits}
use Rattle.wl_scan.specs.Forms.{IsWord, head_of}
use Rattle.wl_syntax.proofs.atoms.pattern.Goals as goal

pub returns-then-eq : goal.returns-then-eq
returns-then-eq c =
    let parts = split_once_first 95 c.args.text.now (Some (c.in-Some.name, c.in-Some.rest)) c.in-Some.ensures.cases (omega arith) in
    c.in_ok-named.ensures (bound c.in-Some.name.now (blanks c.in-Some.rest.now) ∷ []) (items_one _ (bound c.in-Some.name.now (blanks c.in-Some.rest.now)) (c.in_ok-pattern.ensures (blanks c.in-Some.rest.now) c.in_ok-blanks.ensures))
    ∙ ap unstamped (sym (pattern_optional c.args.text.now _ _ parts.1 parts.2 (sym c.eq.ensures ∙ c.if-eq.true)))

pub unreachable-requires : goal.unreachable-requires
unreachable-requires c = let m = c.requires.form.mark in let e = split_once_first 95 c.args.text.now None c.in_default.ensures.cases (omega arith) in omega arith

pub blanks-requires-clause-word : goal.blanks-requires-clause-word
blanks-requires-clause-word c =
    let parts = split_once_first 95 c.args.text.now (Some (c.in-Some.name, c.in-Some.rest)) c.in-Some.ensures.cases (omega arith) in
    subst (λ s. 0 < length (head_of s) → head_of s ≢ codes "." → IsWord (head_of s)) (sym parts.2) c.requires.form.head

pub blanks-requires-clause-fits : goal.blanks-requires-clause-fits
blanks-requires-clause-fits c =
    let parts = split_once_first 95 c.args.text.now (Some (c.in-Some.name, c.in-Some.rest)) c.in-Some.ensures.cases (omega arith) in
    blanks_fit c.in-Some.name.now (blanks c.in-Some.rest.now) (bound_fits c.in-Some.rest.now (bound c.in-Some.name.now (blanks c.in-Some.rest.now)) (subst IsWithinLimits (pattern_is c.args.text.now _ _ parts.1 parts.2) c.requires.fits))

pub bound-requires-clause-word : goal.bound-requires-clause-word
bound-requires-clause-word c =
    let parts = split_once_first 95 c.args.text.now (Some (c.in-Some.name, c.in-Some.rest)) c.in-Some.ensures.cases (omega arith) in
    subst (λ s. 0 < length s → IsWord s) (sym parts.1) c.requires.form.name

pub bound-requires-clause-fits : goal.bound-requires-clause-fits
bound-requires-clause-fits c =
    let parts = split_once_first 95 c.args.text.now (Some (c.in-Some.name, c.in-Some.rest)) c.in-Some.ensures.cases (omega arith) in
    (blanks c.in-Some.rest.now, c.in_ok-blanks.ensures, bound_fits c.in-Some.rest.now (bound c.in-Some.name.now (blanks c.in-Some.rest.now)) (subst IsWithinLimits (pattern_is c.args.text.now _ _ parts.1 parts.2) c.requires.fits))

pub named-requires-clause-fits : goal.named-requires-clause-fits
named-requires-clause-fits c =
    let parts = split_once_first 95 c.args.text.now (Some (c.in-Some.name, c.in-Some.rest)) c.in-Some.ensures.cases (omega arith) in (
      bound c.in-Some.name.now (blanks c.in-Some.rest.now) ∷ [],
      items_one _ (bound c.in-Some.name.now (blanks c.in-Some.rest.now)) (c.in_ok-pattern.ensures (blanks c.in-Some.rest.now) c.in_ok-blanks.ensures),
      subst IsWithinLimits (pattern_optional c.args.text.now _ _ parts.1 parts.2 (sym c.eq.ensures ∙ c.if-eq.true)) c.requires.fits,
    )
