-- Arithmetic and order of fractions, and the numbers that have to stay in range on the way. The rules are those of whole numbers and fractions; where a sum, a product or a power overflows is this project's own.
use Rattle.std.specs.Prelude.{ℕ, suc, ℤ, pos, negsuc, neg_ℤ, ◌+ℤ◌, ◌-ℤ◌, ◌*ℤ◌, ◌*◌, ◌/◌, ◌^◌, ◌&&◌, ◌==◌, Bool, not, unsigned_abs, if◌then◌else◌, Result, Ok, Err}
use Rattle.std.specs.Int.{int_pow, int_div_euclid, is_negative}
use Rattle.std.specs.Ordering.{int_cmp}
use Rattle.std.specs.declared.cmp.Ordering.{Ordering}
use Rattle.wl_exact.specs.Gcd.{gcd}
use Rattle.wl_exact.specs.Fraction.{Fraction, of_int, reduced, in_range, parts_in_range}
use Rattle.wl_exact.specs.declared.num.NumFault.{NumFault}
use Rattle.wl_exact.specs.declared.num.NumFault.TheVariants.{Overflow, ZeroDivisor}

-- ---- the exact results, of fractions of any size

-- p/q + r/s is (ps + rq) / qs, in lowest terms
abbrev pub sum_of : Fraction → Fraction → Fraction
sum_of a b = reduced (a.num *ℤ pos b.den +ℤ b.num *ℤ pos a.den) (a.den * b.den)

-- p/q times r/s is pr / qs, in lowest terms
abbrev pub product_of : Fraction → Fraction → Fraction
product_of a b = reduced (a.num *ℤ b.num) (a.den * b.den)

abbrev pub negation_of : Fraction → Fraction
negation_of f = record f { num = neg_ℤ f.num }

-- n, with the sign of a whole number
abbrev pub with_sign_of : ℤ → ℕ → ℤ
with_sign_of (pos a) n = pos n
with_sign_of (negsuc a) n = neg_ℤ (pos n)

-- q/p for p/q, with the sign in the numerator
abbrev pub reciprocal_of : Fraction → Fraction
reciprocal_of f = record { num = with_sign_of f.num f.den; den = unsigned_abs f.num }

-- both parts to the power; below 0, the reciprocal of the power without the sign
abbrev pub power_of : Fraction → ℤ → Fraction
power_of f (pos n) = record { num = int_pow f.num n; den = f.den ^ n }
power_of f (negsuc n) = reciprocal_of (record { num = int_pow f.num (suc n); den = f.den ^ suc n })

-- the greatest whole number that is at most the fraction
abbrev pub floor_of : Fraction → Fraction
floor_of f = of_int (int_div_euclid f.num (pos f.den))

-- n / m, rounded down
abbrev pub whole_quotient : ℤ → ℤ → ℤ
whole_quotient n (pos m) = int_div_euclid n (pos m)
whole_quotient n (negsuc m) = int_div_euclid (neg_ℤ n) (pos (suc m))

-- what that leaves of n
abbrev pub whole_remainder : ℤ → ℤ → ℤ
whole_remainder n m = n -ℤ m *ℤ whole_quotient n m

-- quotient, remainder and greatest common divisor of two fractions that are whole numbers; the last has no sign
abbrev pub quotient_of : Fraction → Fraction → Fraction
quotient_of a b = of_int (whole_quotient a.num b.num)

abbrev pub remainder_of : Fraction → Fraction → Fraction
remainder_of a b = of_int (whole_remainder a.num b.num)

abbrev pub gcd_of : Fraction → Fraction → Fraction
gcd_of a b = of_int (pos (gcd (unsigned_abs a.num) (unsigned_abs b.num)))

-- the order by value, where the denominators are positive
abbrev pub fraction_cmp : Fraction → Fraction → Ordering
fraction_cmp a b = int_cmp (a.num *ℤ pos b.den) (b.num *ℤ pos a.den)

abbrev pub is_zero : Fraction → Bool
is_zero f = unsigned_abs f.num == 0

-- ---- what has to stay in range

-- a whole number that is formed on the way
abbrev pub formed : ℤ → Result ℤ NumFault
formed z = if in_range z then Ok z else Err Overflow

-- a denominator that is formed on the way
abbrev pub formed_size : ℕ → Result ℕ NumFault
formed_size n = if in_range (pos n) then Ok n else Err Overflow

-- Over the greatest common divisor of the denominators: both numerators, brought to the common denominator, their sum, and that denominator
abbrev pub sum_fits : Fraction → Fraction → Bool
sum_fits a b =
    let g = gcd a.den b.den in
    let left = a.num *ℤ pos (b.den / g) in
    let right = b.num *ℤ pos (a.den / g) in
    in_range left && in_range right && in_range (left +ℤ right) && in_range (pos (a.den * (b.den / g)))

-- both parts of the product in lowest terms
abbrev pub product_fits : Fraction → Fraction → Bool
product_fits a b = parts_in_range (product_of a b)

-- both parts of the exact power
abbrev pub power_fits : Fraction → ℤ → Bool
power_fits f n = parts_in_range (power_of f n)

abbrev pub sum_overflows : Fraction → Fraction → Bool
sum_overflows a b = not (sum_fits a b)

abbrev pub product_overflows : Fraction → Fraction → Bool
product_overflows a b = not (product_fits a b)

abbrev pub power_overflows : Fraction → ℤ → Bool
power_overflows f n = not (power_fits f n)

-- ---- the results with their faults

-- the fraction p/q, of the two whole numbers in range
abbrev pub checked_ratio : ℤ → ℤ → Result Fraction NumFault
checked_ratio p q =
    if unsigned_abs q == 0 then Err ZeroDivisor else
    if in_range p && in_range q then Ok (reduced (with_sign_of q 1 *ℤ p) (unsigned_abs q)) else Err Overflow

abbrev pub checked_sum : Fraction → Fraction → Result Fraction NumFault
checked_sum a b = if sum_fits a b then Ok (sum_of a b) else Err Overflow

abbrev pub checked_product : Fraction → Fraction → Result Fraction NumFault
checked_product a b = if product_fits a b then Ok (product_of a b) else Err Overflow

abbrev pub checked_power : Fraction → ℤ → Result Fraction NumFault
checked_power f n =
    if is_zero f && is_negative n then Err ZeroDivisor else
    if power_fits f n then Ok (power_of f n) else Err Overflow

abbrev pub checked_quotient : Fraction → Fraction → Result Fraction NumFault
checked_quotient a b = if is_zero b then Err ZeroDivisor else Ok (quotient_of a b)

abbrev pub checked_remainder : Fraction → Fraction → Result Fraction NumFault
checked_remainder a b = if is_zero b then Err ZeroDivisor else Ok (remainder_of a b)
