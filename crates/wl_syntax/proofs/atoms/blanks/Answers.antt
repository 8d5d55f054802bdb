use Rattle.std.proofs.Common.{Some, None, sym, ap, ◌∙◌, arith, subst, ◌<◌, length}
use Rattle.std.proofs.lemmas.Str.Pattern.{strip_prefix_char}
use Rattle.wl_expr.specs.Stamped.{unstamped}
use Rattle.wl_syntax.proofs.Marks.{blanks_one, blanks_none, head_none, head_one}
use Rattle.std.specs.Prelude.{◌≢◌, codes}
use Rattle.wl_scan.specs.Forms.{IsWord}
use Rattle.wl_syntax.proofs.atoms.blanks.Goals as goal

pub returns-in_ok-blank-in-None-strip_prefix : goal.returns-in_ok-blank-in-None-strip_prefix
returns-in_ok-blank-in-None-strip_prefix c =
    c.in_ok-blank-in-None-strip_prefix.ensures ∙ ap unstamped (sym (blanks_one _ _ (strip_prefix_char 95 _ (Some c.in-Some.second) c.in-Some.ensures.cases (omega arith)) (strip_prefix_char 95 _ None c.in-None-strip_prefix.ensures.cases (omega arith))))

pub returns-in_ok-blank-in-None : goal.returns-in_ok-blank-in-None
returns-in_ok-blank-in-None c =
    c.in_ok-blank-in-None.ensures ∙ ap unstamped (sym (blanks_none _ (strip_prefix_char 95 _ None c.in-None.ensures.cases (omega arith))))

pub blank-requires-in-None-strip_prefix-clause-word : goal.blank-requires-in-None-strip_prefix-clause-word
blank-requires-in-None-strip_prefix-clause-word c =
    subst (λ h. 0 < length h → h ≢ codes "." → IsWord h) (head_one _ _ (strip_prefix_char 95 _ (Some c.in-Some.second) c.in-Some.ensures.cases (omega arith)) (strip_prefix_char 95 _ None c.in-None-strip_prefix.ensures.cases (omega arith))) c.requires.word

pub blank-requires-in-None-clause-word : goal.blank-requires-in-None-clause-word
blank-requires-in-None-clause-word c = subst (λ h. 0 < length h → h ≢ codes "." → IsWord h) (head_none _ (strip_prefix_char 95 _ None c.in-None.ensures.cases (omega arith))) c.requires.word
