use Rattle.std.proofs.Common.{◌∙◌, ap, sym}
use Rattle.wl_words.specs.Numbers.{is_numeral}
use Rattle.wl_words.proofs.Numerals.{numeral_of_some}
use Rattle.wl_words.proofs.number.is_numeral.Goals as goal

pub returns-then-not-is_empty : goal.returns-then-not-is_empty
returns-then-not-is_empty c =
    c.are_digits.ensures ∙ numeral_of_some c.as_bytes-bytes.result.now (sym c.if-not-is_empty.ensures) ∙ ap is_numeral c.as_bytes-bytes.ensures.value
