-- What is true of the definitions, each as a statement that a function of `laws` proves.
use Rattle.std.specs.Prelude.{unsigned_abs, int_div, ◌*◌, ◌/◌, ℕ, ℤ, pos, suc, ◌≡◌, ◌↔◌, ◌⊎◌, ◌<◌, ◌≤ℤ◌, ◌<ℤ◌, ◌+ℤ◌, ◌*ℤ◌}
use Rattle.std.specs.Int.{IsGcd}
use Rattle.std.specs.declared.cmp.Ordering.TheVariants.{Less, Equal}
use Rattle.std.specs.Ordering.{ordering_reverse}
use Rattle.wl_exact.specs.Gcd.{gcd}
use Rattle.wl_exact.specs.Fraction.{Fraction, reduced, IsReduced, IsNumber}
use Rattle.wl_exact.specs.Arithmetic.{product_of, power_of, floor_of, whole_quotient, whole_remainder, fraction_cmp, checked_sum, checked_product}

-- two fractions have one value
abbrev pub SameValue : Fraction → Fraction → Type 0
SameValue a b = a.num *ℤ pos b.den ≡ b.num *ℤ pos a.den

-- ---- the greatest common divisor and lowest terms

-- it divides both, and each number that divides both divides it
abbrev pub GcdIsGreatest : Type 0
GcdIsGreatest = (a b : ℕ) → IsGcd a b (gcd a b)

-- p/q in lowest terms is in lowest terms, and has the value of p/q
abbrev pub ReducedIsLowest : Type 0
ReducedIsLowest =
    (p : ℤ) (q : ℕ) → 0 < q →
    IsReduced (reduced p q) × (0 < (reduced p q).den) × SameValue (reduced p q) (record { num = p; den = q })

abbrev pub LowestTermsAreUnique : Type 0
LowestTermsAreUnique =
    (a b : Fraction) → IsReduced a → IsReduced b → 0 < a.den → 0 < b.den → SameValue a b → a ≡ b

-- ---- sum, product and power

-- the order of the terms makes no difference, to an overflow neither
abbrev pub SumCommutes : Type 0
SumCommutes = (a b : Fraction) → checked_sum a b ≡ checked_sum b a

abbrev pub ProductCommutes : Type 0
ProductCommutes = (a b : Fraction) → checked_product a b ≡ checked_product b a

-- the product of two numbers has the parts that are left once each numerator and the other denominator are freed of what they share
abbrev pub ProductIsFormed : Type 0
ProductIsFormed =
    (a b : Fraction) → IsNumber a → IsNumber b →
    let g = gcd (unsigned_abs a.num) b.den in
    let h = gcd (unsigned_abs b.num) a.den in
    product_of a b ≡ record { num = int_div a.num (pos g) *ℤ int_div b.num (pos h); den = a.den / h * (b.den / g) }

-- the next power is one factor more
abbrev pub PowerStep : Type 0
PowerStep = (f : Fraction) (n : ℕ) → IsNumber f → power_of f (pos (suc n)) ≡ product_of (power_of f (pos n)) f

-- ---- the order by value

abbrev pub OrderReverses : Type 0
OrderReverses = (a b : Fraction) → fraction_cmp a b ≡ ordering_reverse (fraction_cmp b a)

abbrev pub OrderChains : Type 0
OrderChains =
    (a b c : Fraction) → IsNumber a → IsNumber b → IsNumber c →
    fraction_cmp a b ≡ Less → fraction_cmp b c ≡ Less → fraction_cmp a c ≡ Less

-- two numbers are the same, or one is less
abbrev pub OrderConnects : Type 0
OrderConnects =
    (a b : Fraction) → IsNumber a → IsNumber b →
    (fraction_cmp a b ≡ Less) ⊎ ((a ≡ b) ⊎ (fraction_cmp b a ≡ Less))

abbrev pub OrderTellsApart : Type 0
OrderTellsApart = (a b : Fraction) → IsNumber a → IsNumber b → (fraction_cmp a b ≡ Equal) ↔ (a ≡ b)

-- ---- quotients that are rounded down

-- n is m times the quotient, and the remainder
abbrev pub QuotientAndRemainder : Type 0
QuotientAndRemainder = (n m : ℤ) → m *ℤ whole_quotient n m +ℤ whole_remainder n m ≡ n

-- the remainder lies between 0 and the divisor, and may be 0
abbrev pub RemainderIsBelow : Type 0
RemainderIsBelow =
    (n m : ℤ) →
    (pos 0 <ℤ m → (pos 0 ≤ℤ whole_remainder n m) × (whole_remainder n m <ℤ m)) ×
    (m <ℤ pos 0 → (whole_remainder n m ≤ℤ pos 0) × (m <ℤ whole_remainder n m))

-- the fraction is at least its floor, and less than the next whole number
abbrev pub FloorIsGreatest : Type 0
FloorIsGreatest =
    (f : Fraction) → 0 < f.den →
    (((floor_of f).num *ℤ pos f.den) ≤ℤ f.num) × (f.num <ℤ (((floor_of f).num +ℤ pos 1) *ℤ pos f.den))
