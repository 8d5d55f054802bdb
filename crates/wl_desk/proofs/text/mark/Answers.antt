use Rattle.std.proofs.Common.{None, Some, true, false, sym, ◌∙◌, ap, lit<}
use Rattle.std.proofs.lemmas.Str.Pattern.{split_parts}
use Rattle.wl_desk.specs.MessageText.{mark_digits}
use Rattle.wl_desk.proofs.Filling.{mark_digits_free, mark_digits_first}
use Rattle.wl_desk.proofs.text.mark.Goals as goal

pub returns-in_err-digits : goal.returns-in_err-digits
returns-in_err-digits c = rw c.from_residual.ensures (mark_digits_free c.args.text.now (split_parts 96 c.args.text.now None c.in_err-digits.ensures.cases (lit< tt)))

pub returns-then-is_numeral : goal.returns-then-is_numeral
returns-then-is_numeral c =
    let parts = split_parts 96 c.args.text.now (Some (c.in_ok-digits.digits, c.in_ok-digits.rest)) c.in_ok-digits.ensures.cases (lit< tt) in
    (ap mark_digits parts.0 ∙ mark_digits_first c.in_ok-digits.digits.now c.in_ok-digits.rest.now true parts.1 (sym c.is_numeral.ensures ∙ c.if-is_numeral.true), parts.0)

pub returns-else-is_numeral : goal.returns-else-is_numeral
returns-else-is_numeral c =
    let parts = split_parts 96 c.args.text.now (Some (c.in_ok-digits.digits, c.in_ok-digits.rest)) c.in_ok-digits.ensures.cases (lit< tt) in
    ap mark_digits parts.0 ∙ mark_digits_first c.in_ok-digits.digits.now c.in_ok-digits.rest.now false parts.1 (sym c.is_numeral.ensures ∙ c.if-is_numeral.false)
