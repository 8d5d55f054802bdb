-- A fraction of whole numbers of any size, and which fractions are numbers. The range is this project's own.
use Rattle.std.specs.Prelude.{ℕ, ℤ, pos, ◌≡◌, ◌^◌, ◌<◌, ◌/◌, ◌&&◌, Bool, nat_lt, unsigned_abs, int_div, refl}
use Rattle.std.specs.Coded.{Coded, coded_ℕ, coded_ℤ, coded×, code_by}
use Rattle.wl_exact.specs.Gcd.{gcd}

pub record Fraction : Type 0 where
  pub num : ℤ
  pub den : ℕ

-- a fraction is stored as the pair of its fields
abbrev pub fraction_code : Coded Fraction
fraction_code =
    code_by (ℤ × ℕ) (coded× coded_ℤ coded_ℕ) (λ f. (f.num, f.den)) (λ p. record { num = p.0; den = p.1 }) (λ _. refl)

-- a whole number, as a fraction
abbrev pub of_int : ℤ → Fraction
of_int n = record { num = n; den = 1 }

-- the fraction p/q in lowest terms: both are divided by their greatest common divisor
abbrev pub reduced : ℤ → ℕ → Fraction
reduced p q =
    let g = gcd (unsigned_abs p) q in
    record { num = int_div p (pos g); den = q / g }

-- no number but 1 divides both parts
abbrev pub IsReduced : Fraction → Type 0
IsReduced f = gcd (unsigned_abs f.num) f.den ≡ 1

-- the whole number lies from -(2^127 - 1) to 2^127 - 1
abbrev pub in_range : ℤ → Bool
in_range z = nat_lt (unsigned_abs z) (2 ^ 127)

-- so do both parts
abbrev pub parts_in_range : Fraction → Bool
parts_in_range f = in_range f.num && in_range (pos f.den)

pub record InRange (f : Fraction) : Type 0 where
  pub num : unsigned_abs f.num < 2 ^ 127
  pub den : f.den < 2 ^ 127

-- a number: a fraction in lowest terms and in range, whose denominator is at least 1
pub record IsNumber (f : Fraction) : Type 0 where
  pub reduced : IsReduced f
  pub positive : 0 < f.den
  pub range : InRange f
