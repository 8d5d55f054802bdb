-- The number that a mark's digits write.
use Rattle.std.proofs.Common.{◌≡◌, ◌<◌, ◌≤◌, ◌^◌, ℕ, Bool, true, false, List, [], ◌∷◌, length, Result, Ok, Err, Some, slice_get, refl, arith, rules}
use Rattle.std.specs.Prelude.{◌==◌, ◌≢◌, ◌&&◌, not}
use Rattle.std.specs.Char.{is_ascii_digit}
use Rattle.std.specs.Int.{IsInRange}
use Rattle.std.proofs.lemmas.Str.{digit_value_digit}
use Rattle.std.specs.List.{list_all}
use Rattle.std.specs.Result.{MatchResult}
use Rattle.std.specs.Str.Parse.{digits_value, ParsesUnsigned}
use Rattle.std.proofs.lemmas.Str.Parse.{IsNumeralModel, numerals_by_value, parse_digits, digits_value-take-le}
use Rattle.wl_desk.specs.MessageText.{is_numeral}

own : IsNumeralModel (λ ds. list_all is_ascii_digit ds ≡ true) (digits_value 10)
own = numerals_by_value _ (search rules)

and_right : (a b : Bool) → a && b ≡ true → (a ≡ true) × (b ≡ true)
and_right true b h = (refl, h)
and_right false b h = cc

numeral_digits : (ds : List ℕ) → is_numeral ds ≡ true → list_all is_ascii_digit ds ≡ true
numeral_digits [] h = cc
numeral_digits (d ∷ ds) h = (and_right (not (d == 48)) (list_all is_ascii_digit (d ∷ ds)) h).1

numeral_some : (ds : List ℕ) → is_numeral ds ≡ true → 0 < length ds
numeral_some [] h = cc
numeral_some (d ∷ ds) h = omega arith

digit_positive : (d : ℕ) → not (d == 48) ≡ true → is_ascii_digit d ≡ true → 1 ≤ digits_value 10 (d ∷ [])
digit_positive d p q =
    let range : IsInRange 48 57 d = search rules in
    let value = digit_value_digit d range in
    let other : d ≢ 48 = λ e. cc in
    omega (arith, value, range, other)

pub numeral_positive : (ds : List ℕ) → is_numeral ds ≡ true → 1 ≤ digits_value 10 ds
numeral_positive [] h = cc
numeral_positive (d ∷ ds) h =
    let parts = and_right (not (d == 48)) (list_all is_ascii_digit (d ∷ ds)) h in
    let digit = and_right (is_ascii_digit d) (list_all is_ascii_digit ds) parts.1 in
    let first : 1 ≤ digits_value 10 (d ∷ []) = digit_positive d parts.0 digit.0 in
    let whole = digits_value-take-le 10 (d ∷ ds) 1 (omega arith) in
    omega (arith, first, whole)

pub parsed : {E : Type 0} (ds : List ℕ) (r : Result ℕ E) → ParsesUnsigned 64 10 ds r → is_numeral ds ≡ true → MatchResult r (λ n. n ≡ digits_value 10 ds) (λ e. 2 ^ 64 ≤ digits_value 10 ds)
parsed {E} ds (Ok n) p h = (parse_digits own {E = E} 64 ds (Ok n) p (numeral_digits ds h)).1
parsed {E} ds (Err e) p h =
    let large : ¬ (digits_value 10 ds < 2 ^ 64) = λ l. parse_digits own {E = E} 64 ds (Err e) p (numeral_digits ds h) (numeral_some ds h, l) in
    omega (arith, large)

pub numeral_first : (ds : List ℕ) (d : ℕ) (b : Bool) → Some d ≡ slice_get ds 0 → (d == 48) ≡ b → is_numeral ds ≡ (not b && list_all is_ascii_digit ds)
numeral_first [] d b h p = cc
numeral_first (e ∷ es) d b h p = let same : e ≡ d = cc in rw (same, p) refl
