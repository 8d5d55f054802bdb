use Rattle.std.proofs.Common.{ap, ◌∙◌, arith}
use Rattle.wl_scan.specs.Lengths.{blanks_length, sign_length}
use Rattle.wl_scan.proofs.Rows.{BeginsWordOrSign, word_is_name, word_is_pattern}
use Rattle.wl_scan.proofs.found.word_or_sign.Goals as goal

pub returns-in-0 : goal.returns-in-0
returns-in-0 c =
    let begins : BeginsWordOrSign _ = record { some = c.requires.some; digit = c.requires.digit; slot = c.requires.slot; out = c.requires.out; quote = c.requires.quote } in
    c.longer.ensures
    ∙ word_is_name _ _ _ _ begins c.name_length-name.ensures.length (c.sign_length-sign.ensures ∙ ap sign_length c.as_bytes.ensures.value)
    (c.blanks_length.ensures.length ∙ ap blanks_length c.range_from.ensures.value) c.in-0.is

pub returns-in_default : goal.returns-in_default
returns-in_default c =
    let begins : BeginsWordOrSign _ = record { some = c.requires.some; digit = c.requires.digit; slot = c.requires.slot; out = c.requires.out; quote = c.requires.quote } in
    c.longer-in_default.ensures
    ∙ word_is_pattern _ _ _ _ begins c.name_length-name.ensures.length (c.sign_length-sign.ensures ∙ ap sign_length c.as_bytes.ensures.value)
    (c.blanks_length.ensures.length ∙ ap blanks_length c.range_from.ensures.value) (omega (arith, c.in_default))
