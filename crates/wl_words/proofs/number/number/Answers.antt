use Rattle.std.proofs.Common.{◌≡◌, ◌<◌, ◌^◌, ◌∙◌, ℕ, arith, sym, true}
use Rattle.wl_words.specs.Numbers.{is_numeral}
use Rattle.wl_words.proofs.Numerals.{unparsed}
use Rattle.wl_words.proofs.number.number.Goals as goal

pub returns-in-Err : goal.returns-in-Err
returns-in-Err c =
    let small : c.args.greatest < 2 ^ 64 = omega (arith, c.ranges.greatest.fits) in
    let digits : is_numeral c.args.text.now ≡ true = sym c.is_numeral.ensures ∙ c.if-not-is_numeral.false in
    sym (unparsed {E = ℕ} c.args.greatest c.args.text.now 0 small digits c.in-Err.ensures.value.0)
