-- Rows on numbers alone. Reference pages of these.
use Rattle.std.specs.Prelude.{ℕ, ℤ, pos, true, false, nat_eq, List, [], ◌∷◌, Option, Some, None, Result, Ok, Err, unsigned_abs}
use Rattle.std.specs.Int.{int_signum}
use Rattle.wl_exact.specs.Fraction.{Fraction, of_int}
use Rattle.wl_exact.specs.Gcd.{gcd}
use Rattle.wl_exact.specs.Arithmetic.{floor_of, negation_of, whole_quotient, whole_remainder, checked_ratio}
use Rattle.wl_exact.specs.declared.num.NumFault.{NumFault}
use Rattle.wl_expr.specs.Applied.{Applied, unchanged, gives}
use Rattle.wl_expr.specs.Tree.{Tree, num}
use Rattle.wl_expr.specs.Words.{whole, natural, int_of}
use Rattle.wl_algebra.specs.Answers.{number_of, overflowed}

-- an exact number, unless it overflowed
abbrev pub exact : Result Fraction NumFault → Applied
exact (Ok n) = gives (num n)
exact (Err e) = overflowed

-- ---- of one number

abbrev pub only_number : List Tree → Option Fraction
only_number (t ∷ []) = number_of t
only_number es = None

abbrev pub by_number : (Fraction → Fraction) → Option Fraction → Applied
by_number f None = unchanged
by_number f (Some n) = gives (num (f n))

abbrev pub of_number : (Fraction → Fraction) → List Tree → Applied
of_number f es = by_number f (only_number es)

abbrev pub absolute : Fraction → Fraction
absolute n = record n { num = pos (unsigned_abs n.num) }

abbrev pub sign : Fraction → Fraction
sign n = of_int (int_signum n.num)

abbrev pub ceiling : Fraction → Fraction
ceiling n = negation_of (floor_of (negation_of n))

abbrev pub numerator : Fraction → Fraction
numerator n = of_int n.num

abbrev pub denominator : Fraction → Fraction
denominator n = of_int (pos n.den)

-- ---- of two integers, the second not 0

abbrev pub both : Option ℤ → Option ℤ → Option (ℤ × ℤ)
both (Some n) (Some m) = Some (n, m)
both _ _ = None

abbrev pub two_integers : List Tree → Option (ℤ × ℤ)
two_integers (n ∷ m ∷ []) = both (int_of n) (int_of m)
two_integers es = None

abbrev pub by_integers : (ℤ → ℤ → Applied) → Option (ℤ × ℤ) → Applied
by_integers f None = unchanged
by_integers f (Some p) = elim (nat_eq (unsigned_abs p.1) 0) [ true ↦ unchanged | false ↦ f p.0 p.1 ]

abbrev pub of_pair : (ℤ → ℤ → Applied) → List Tree → Applied
of_pair f es = by_integers f (two_integers es)

-- rounded down
abbrev pub modulo : ℤ → ℤ → Applied
modulo n m = gives (whole (whole_remainder n m))

abbrev pub quotient : ℤ → ℤ → Applied
quotient n m = gives (whole (whole_quotient n m))

-- `Rational[n, m]`: the number n/m
abbrev pub rational : ℤ → ℤ → Applied
rational n m = exact (checked_ratio n m)

-- ---- GCD of integers, 0 without any

abbrev pub gcd_on : ℕ → List Tree → Applied
gcd_on g [] = gives (natural g)
gcd_on g (t ∷ ts) = elim (int_of t) [ None ↦ unchanged | Some n ↦ gcd_on (gcd g (unsigned_abs n)) ts ]

abbrev pub gcd_row : List Tree → Applied
gcd_row es = gcd_on 0 es
