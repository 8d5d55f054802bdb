-- The bytes that cells and tokens both speak of.
use Rattle.std.specs.Prelude.{ℕ, ◌-◌, Bool, ◌||◌, ◌&&◌, ◌==◌, nat_le, if◌then◌else◌}

-- space, tab, line feed, form feed and carriage return
abbrev pub is_blank : ℕ → Bool
is_blank b = (b == 32) || (b == 9) || (b == 10) || (b == 12) || (b == 13)

-- `0` to `9`
abbrev pub is_digit : ℕ → Bool
is_digit b = nat_le 48 b && nat_le b 57

-- `A` to `Z`
abbrev pub is_capital : ℕ → Bool
is_capital b = nat_le 65 b && nat_le b 90

-- `a` to `z`
abbrev pub is_small : ℕ → Bool
is_small b = nat_le 97 b && nat_le b 122

-- the digits of bases up to 36: `0` to `9` and the letters of ASCII
abbrev pub is_letter_or_digit : ℕ → Bool
is_letter_or_digit b = is_digit b || is_capital b || is_small b

-- the value of such a digit: letters of either case go from 10 to 35
abbrev pub digit_value : ℕ → ℕ
digit_value b = if is_digit b then b - 48 else (if is_capital b then b - 55 else (if is_small b then b - 87 else 0))
