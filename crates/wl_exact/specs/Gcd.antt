-- The greatest common divisor of two natural numbers. What it is, std's `IsGcd` says; this is a form of it that computes.
use Rattle.std.specs.Prelude.{ℕ, zero, suc, ◌%◌}

-- Euclid's remainders, at most as many as the first number says
abbrev pub gcd_within : ℕ → ℕ → ℕ → ℕ
gcd_within zero a b = a
gcd_within (suc k) a zero = a
gcd_within (suc k) a (suc b) = gcd_within k (suc b) (a % suc b)

abbrev pub gcd : ℕ → ℕ → ℕ
gcd a b = gcd_within b a b
