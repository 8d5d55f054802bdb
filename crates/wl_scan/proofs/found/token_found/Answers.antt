use Rattle.std.proofs.Common.{List, ℕ, get_or, ap, sym, ◌∙◌, arith}
use Rattle.wl_scan.specs.Tokens.{token_found}
use Rattle.wl_scan.proofs.Rows.{digit_between, number_found, slot_found, out_found, text_found}
use Rattle.wl_scan.proofs.found.token_found.Goals as goal

pub returns-in-35 : goal.returns-in-35
returns-in-35 c =
    c.slot.ensures ∙ slot_found _ c.utf8.text c.requires (ap (λ (l : List ℕ). get_or l 0 0) (sym c.as_bytes-bytes.ensures.value) ∙ c.in-35.is)

pub returns-in-37 : goal.returns-in-37
returns-in-37 c =
    c.out.ensures ∙ out_found _ c.as_bytes-bytes.ensures.utf8 (omega (arith, c.as_bytes-bytes.ensures.len, c.requires)) c.in-37.is
    ∙ ap token_found c.as_bytes-bytes.ensures.value

pub returns-in-34 : goal.returns-in-34
returns-in-34 c =
    c.string.ensures ∙ text_found _ c.as_bytes-bytes.ensures.utf8 (omega (arith, c.as_bytes-bytes.ensures.len, c.requires)) c.in-34.is
    ∙ ap token_found c.as_bytes-bytes.ensures.value

pub returns-in-48-to-57 : goal.returns-in-48-to-57
returns-in-48-to-57 c =
    c.number.ensures
    ∙ number_found c.as_bytes-bytes.result.now c.as_bytes-bytes.ensures.utf8 (omega (arith, c.as_bytes-bytes.ensures.len, c.requires))
    (digit_between (get_or c.as_bytes-bytes.result.now 0 0) (omega (arith, c.in-48-to-57)) (omega (arith, c.in-48-to-57)))
    (sym c.is_fraction.ensures ∙ c.if-is_fraction.false)
    ∙ ap token_found c.as_bytes-bytes.ensures.value
