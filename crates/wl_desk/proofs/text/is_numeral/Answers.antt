use Rattle.std.proofs.Common.{◌≡◌, ℕ, false, sym, ◌∙◌, ap, arith, Some, slice_get, List}
use Rattle.std.specs.Prelude.{◌==◌}
use Rattle.wl_desk.proofs.Numerals.{numeral_first}
use Rattle.wl_desk.proofs.text.is_numeral.Goals as goal

pub returns-then-first-ne-LEADING_ZERO : goal.returns-then-first-ne-LEADING_ZERO
returns-then-first-ne-LEADING_ZERO c =
    let other : (c.in-Some.first.now == 48) ≡ false = grind (arith, c.if-first-ne-LEADING_ZERO.true) in
    let first : Some c.in-Some.first.now ≡ slice_get c.args.text.now 0 = c.in-Some.ensures.value ∙ ap (λ (bs : List ℕ). slice_get bs 0) c.as_bytes-bytes.ensures.value in
    rw (c.are_digits.ensures, c.as_bytes-bytes.ensures.value) (sym (numeral_first c.args.text.now c.in-Some.first.now false first other))
