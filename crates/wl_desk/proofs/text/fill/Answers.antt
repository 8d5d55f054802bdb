use Rattle.std.proofs.Common.{◌≡◌, ◌++◌, ◌∷◌, [], Some, None, List, ℕ, sym, ◌∙◌, ap, lit<, map, rules, string_bytes}
use Rattle.std.proofs.lemmas.Str.Pattern.{split_parts}
use Rattle.wl_expr.specs.Stamped.{plain}
use Rattle.wl_desk.specs.MessageText.{filled_text, mark_digits, marked}
use Rattle.wl_desk.proofs.Filling.{filled_at_mark, filled_at_none, filled_free, step_of}
use Rattle.wl_desk.proofs.text.fill.Goals as goal

pub loop-before-preserved-in_ok-push_mark-in-Some-mark :
    goal.loop-before-preserved-in_ok-push_mark-in-Some-mark
loop-before-preserved-in_ok-push_mark-in-Some-mark c =
    let args = map plain c.args.args.now in
    let parts = split_parts 96 c.loop-before.rest.now (Some (c.in-Some.before, c.in-Some.behind)) c.in-Some.ensures.cases (lit< tt) in
    let found = c.in-Some-mark.ensures in
    let whole = parts.0 ∙ ap (λ (t : List ℕ). c.in-Some.before.now ++ 96 ∷ t) found.1 in
    let digits = ap mark_digits (sym found.1) ∙ found.0 in
    let rest : filled_text c.loop-before.rest.now args ≡ c.in-Some.before.now ++ (marked args c.in-Some-mark.digits.now ++ filled_text c.in-Some-mark.after.now args) =
    ap (λ (t : List ℕ). filled_text t args) whole ∙ filled_at_mark args c.in-Some.before.now c.in-Some-mark.digits.now c.in-Some-mark.after.now parts.1 digits in
    record {
      utf8 = search rules;
      filled =
          rw (c.in_ok-push_mark-in-Some-mark.ensures, c.in_ok-push_str.ensures.bytes)
          (step_of (string_bytes c.loop-before.out) c.in-Some.before.now (marked args c.in-Some-mark.digits.now) (filled_text c.in-Some-mark.after.now args) _ (filled_text c.loop-before.rest.now args) c.loop-before.invariant.filled rest);
    }

pub loop-before-preserved : goal.loop-before-preserved
loop-before-preserved c =
    let args = map plain c.args.args.now in
    let parts = split_parts 96 c.loop-before.rest.now (Some (c.in-Some.before, c.in-Some.behind)) c.in-Some.ensures.cases (lit< tt) in
    let rest : filled_text c.loop-before.rest.now args ≡ c.in-Some.before.now ++ (96 ∷ [] ++ filled_text c.in-Some.behind.now args) =
    ap (λ (t : List ℕ). filled_text t args) parts.0 ∙ filled_at_none args c.in-Some.before.now c.in-Some.behind.now parts.1 c.in-None.ensures in
    record {
      utf8 = search rules;
      filled =
          rw (c.in_ok-push_str-in-None.ensures.bytes, c.in_ok-push_str.ensures.bytes)
          (step_of (string_bytes c.loop-before.out) c.in-Some.before.now (96 ∷ []) (filled_text c.in-Some.behind.now args) _ (filled_text c.loop-before.rest.now args) c.loop-before.invariant.filled rest);
    }

pub returns : goal.returns
returns c =
    let args = map plain c.args.args.now in
    let free = split_parts 96 c.loop-before.rest.now None c.in_default.ensures.cases (lit< tt) in
    let rest = filled_free args c.loop-before.rest.now free in
    c.in_ok-push_str-2.ensures.bytes ∙ ap (λ (t : List ℕ). string_bytes c.loop-before.out ++ t) (sym rest) ∙ c.loop-before.invariant.filled
