-- The number that a literal writes: digits alone in base ten, and behind a base and `^^` the digits of that base. Bases from 2 to 36 are those of the language.
use Rattle.std.specs.Prelude.{ℕ, ◌+◌, ◌*◌, ◌-◌, ◌^◌, ◌≡◌, ◌<◌, Bool, true, ◌&&◌, ◌==◌, nat_le, nat_lt, if◌then◌else◌, Option, None, Some, List, [], ◌∷◌, length, take, drop}
use Rattle.std.specs.List.{prefix_len}
use Rattle.wl_scan.specs.Characters.{digit_value}
use Rattle.wl_scan.specs.Lengths.{beyond, digits_length, is_based}

-- the number that digits write in a base, behind those that write n
abbrev pub value_after : ℕ → ℕ → List ℕ → ℕ
value_after base n [] = n
value_after base n (b ∷ bs) = value_after base (n * base + digit_value b) bs

abbrev pub value_in : ℕ → List ℕ → ℕ
value_in base digits = value_after base 0 digits

abbrev pub decimal_value : List ℕ → ℕ
decimal_value digits = value_in 10 digits

-- the greatest number that a token may write
abbrev pub greatest : ℕ
greatest = 2 ^ 127 - 1

abbrev pub base_of : List ℕ → ℕ
base_of literal = if is_based literal then decimal_value (take (digits_length literal) literal) else 10

abbrev pub is_base : ℕ → Bool
is_base base = nat_le 2 base && nat_le base 36

-- where the digits in this base begin
abbrev pub digits_start : List ℕ → ℕ
digits_start literal = if is_based literal then digits_length literal + 2 else 0

abbrev pub digits_of : List ℕ → List ℕ
digits_of literal = drop (digits_start literal) literal

-- the number that a literal writes
abbrev pub literal_value : List ℕ → ℕ
literal_value literal = value_in (base_of literal) (digits_of literal)

-- how many digits come first whose values are below the base
abbrev pub fitting_length : ℕ → List ℕ → ℕ
fitting_length base digits = prefix_len (λ b. nat_lt (digit_value b) base) digits

-- the first digit whose value isn't, or the place of one where there is none at all
abbrev pub bad_digit : ℕ → List ℕ → Option ℕ
bad_digit base digits =
    let n = fitting_length base digits in
    if nat_lt 0 n && (n == length digits) then None
    else Some n

-- where in a literal a digit is at fault
abbrev pub digit_fault : List ℕ → Option ℕ
digit_fault literal = beyond (digits_start literal) (bad_digit (base_of literal) (digits_of literal))

-- the base is one of these, and the number up to the greatest
pub record HasValue (literal : List ℕ) : Type 0 where
  pub base : is_base (base_of literal) ≡ true
  pub fits : literal_value literal < 2 ^ 127
