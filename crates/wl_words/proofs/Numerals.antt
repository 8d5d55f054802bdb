-- The number that a text writes.
use Rattle.std.proofs.Common.{◌≡◌, ◌<◌, ◌^◌, ℕ, true, false, List, [], ◌∷◌, length, Err, None, refl, arith, rules}
use Rattle.std.specs.Prelude.{◌==◌}
use Rattle.std.specs.Char.{is_ascii_digit}
use Rattle.std.specs.List.{list_all}
use Rattle.std.specs.Str.Parse.{digits_value, ParsesUnsigned}
use Rattle.std.proofs.lemmas.Str.Parse.{IsNumeralModel, numerals_by_value, parse_digits}
use Rattle.wl_words.specs.Numbers.{between, is_numeral, number}

own : IsNumeralModel (λ ds. list_all is_ascii_digit ds ≡ true) (digits_value 10)
own = numerals_by_value _ (search rules)

numeral_digits : (ds : List ℕ) → is_numeral ds ≡ true → list_all is_ascii_digit ds ≡ true
numeral_digits [] h = cc
numeral_digits (d ∷ ds) h = h

numeral_some : (ds : List ℕ) → is_numeral ds ≡ true → 0 < length ds
numeral_some [] h = cc
numeral_some (d ∷ ds) h = omega arith

-- a text with a byte is a numeral where all its bytes are digits
pub numeral_of_some : (ds : List ℕ) → (length ds == 0) ≡ false → list_all is_ascii_digit ds ≡ is_numeral ds
numeral_of_some [] h = cc
numeral_of_some (d ∷ ds) h = refl

past : (greatest n : ℕ) → greatest < n → between 1 greatest n ≡ None
past greatest n h = grind arith

-- a numeral that is no `u64` is past each bound that is one
pub unparsed : {E : Type 0} (greatest : ℕ) (ds : List ℕ) (e : E) → greatest < 2 ^ 64 → is_numeral ds ≡ true → ParsesUnsigned 64 10 ds (Err e) → number greatest ds ≡ None
unparsed {E} greatest ds e small h p =
    let large : ¬ (digits_value 10 ds < 2 ^ 64) = λ l. parse_digits own {E = E} 64 ds (Err e) p (numeral_digits ds h) (numeral_some ds h, l) in
    let over : greatest < digits_value 10 ds = omega (arith, large) in
    rw h (past greatest (digits_value 10 ds) over)
