-- The order by value of fractions with positive denominators, and that lowest terms are unique.
use Rattle.std.proofs.Common.{◌≡◌, ◌⊎◌, inl, inr, ℕ, suc, ◌*◌, ◌<◌, ℤ, pos, negsuc, refl, sym, ◌∙◌, ap, subst, arith}
use Rattle.std.specs.Prelude.{◌*ℤ◌, ◌<ℤ◌, unsigned_abs}
use Rattle.std.specs.Int.{◌∣◌}
use Rattle.std.specs.declared.cmp.Ordering.{Ordering}
use Rattle.std.specs.declared.cmp.Ordering.TheVariants.{Less, Equal, Greater}
use Rattle.std.specs.Ordering.{MatchOrdering, ordering_reverse, int_cmp}
use Rattle.std.specs.Cmp.{int_cmp_is}
use Rattle.std.proofs.Math.Nat.{mul_comm, mul-lt-mul_of_pos_right, mul-pos, dvd-mul_left}
use Rattle.std.proofs.lemmas.Nat.Gcd.{dvd_antisymm}
use Rattle.std.proofs.lemmas.Cmp.{int_cmp_total, int_ranked, tied_itself}
use Rattle.std.proofs.lemmas.Int.{ints, unsigned_abs-mul}
use Rattle.wl_exact.specs.Gcd.{gcd}
use Rattle.wl_exact.specs.Fraction.{Fraction, IsReduced, IsNumber}
use Rattle.wl_exact.specs.Arithmetic.{fraction_cmp}
use Rattle.wl_exact.proofs.Divisors.{coprime_comm, divides_factor}
use Rattle.wl_exact.proofs.Integers.{scale_twice}
use Rattle.wl_exact.proofs.LowestTerms.{same_fraction}

-- ---- a positive factor keeps the order

pub scale_less : (k : ℕ) (x y : ℤ) → 0 < k → x <ℤ y → (x *ℤ pos k) <ℤ (y *ℤ pos k)
scale_less k (pos a) (pos b) h l =
    let below : a < b = omega (arith, ints) in
    let products : a * k < b * k = mul-lt-mul_of_pos_right below h in
    omega (arith, ints)
scale_less k (pos a) (negsuc b) h l = absurd (omega (arith, ints))
scale_less k (negsuc a) (pos b) h l =
    let size : 0 < suc a * k = mul-pos (omega arith) h in
    omega (arith, ints)
scale_less k (negsuc a) (negsuc b) h l =
    let below : suc b < suc a = omega (arith, ints) in
    let products : suc b * k < suc a * k = mul-lt-mul_of_pos_right below h in
    omega (arith, ints)

pub cmp_scaled : (k : ℕ) (x y : ℤ) → 0 < k → int_cmp x y ≡ int_cmp (x *ℤ pos k) (y *ℤ pos k)
cmp_scaled k x y h =
    int_cmp_is (x *ℤ pos k) (y *ℤ pos k) (int_cmp x y)
    (go (int_cmp x y) (int_ranked x y (int_cmp x y) refl))
  where
    go : (r : Ordering) → MatchOrdering r (x <ℤ y) (x ≡ y) (y <ℤ x) → MatchOrdering r ((x *ℤ pos k) <ℤ (y *ℤ pos k)) (x *ℤ pos k ≡ y *ℤ pos k) ((y *ℤ pos k) <ℤ (x *ℤ pos k))
    go Less l = scale_less k x y h l
    go Equal e = ap (λ z. z *ℤ pos k) e
    go Greater l = scale_less k y x h l

pub scale_swapped : (x : ℤ) (k m : ℕ) → (x *ℤ pos k) *ℤ pos m ≡ (x *ℤ pos m) *ℤ pos k
scale_swapped x k m = sym (scale_twice k m x) ∙ ap (λ n. x *ℤ pos n) (mul_comm k m) ∙ scale_twice m k x

cmp_equal_numbers : (x y : ℤ) → int_cmp x y ≡ Equal → x ≡ y
cmp_equal_numbers x y e = int_ranked x y Equal (sym e)

-- ---- the order by value

pub cmp_reverses : (a b : Fraction) → fraction_cmp a b ≡ ordering_reverse (fraction_cmp b a)
cmp_reverses a b = int_cmp_total.antisymm (a.num *ℤ pos b.den) (b.num *ℤ pos a.den)

pub cmp_itself : (a : Fraction) → fraction_cmp a a ≡ Equal
cmp_itself a = tied_itself int_cmp_total (a.num *ℤ pos a.den)

-- the numerator over the product of three denominators, of which two are given
abbrev scaled_twice : Fraction → ℕ → ℕ → ℤ
scaled_twice f k m = (f.num *ℤ pos k) *ℤ pos m

first_second : (a b c : Fraction) → 0 < c.den → fraction_cmp a b ≡ int_cmp (scaled_twice a b.den c.den) (scaled_twice b a.den c.den)
first_second a b c h = cmp_scaled c.den (a.num *ℤ pos b.den) (b.num *ℤ pos a.den) h

second_third : (a b c : Fraction) → 0 < a.den → fraction_cmp b c ≡ int_cmp (scaled_twice b a.den c.den) (scaled_twice c a.den b.den)
second_third a b c h =
    cmp_scaled a.den (b.num *ℤ pos c.den) (c.num *ℤ pos b.den) h
    ∙ ap (λ z. int_cmp z (scaled_twice c b.den a.den)) (scale_swapped b.num c.den a.den)
    ∙ ap (int_cmp (scaled_twice b a.den c.den)) (scale_swapped c.num b.den a.den)

first_third : (a b c : Fraction) → 0 < b.den → fraction_cmp a c ≡ int_cmp (scaled_twice a b.den c.den) (scaled_twice c a.den b.den)
first_third a b c h =
    cmp_scaled b.den (a.num *ℤ pos c.den) (c.num *ℤ pos a.den) h
    ∙ ap (λ z. int_cmp z (scaled_twice c a.den b.den)) (scale_swapped a.num c.den b.den)

pub cmp_chains : (a b c : Fraction) → 0 < a.den → 0 < b.den → 0 < c.den → fraction_cmp a b ≡ Less → fraction_cmp b c ≡ Less → fraction_cmp a c ≡ Less
cmp_chains a b c p q r l m =
    first_third a b c q
    ∙ int_cmp_total.trans (scaled_twice a b.den c.den) (scaled_twice b a.den c.den) (scaled_twice c a.den b.den)
    (sym (first_second a b c r) ∙ l)
    (sym (second_third a b c p) ∙ m)

-- equal fractions stand alike to a third
pub cmp_alike : (a b c : Fraction) → 0 < a.den → 0 < b.den → 0 < c.den → fraction_cmp a b ≡ Equal → fraction_cmp a c ≡ fraction_cmp b c
cmp_alike a b c p q r e =
    first_third a b c q
    ∙ int_cmp_total.congr (scaled_twice a b.den c.den) (scaled_twice b a.den c.den) (scaled_twice c a.den b.den) (sym (first_second a b c r) ∙ e)
    ∙ sym (second_third a b c p)

-- ---- lowest terms are unique

-- the denominator of lowest terms divides that of any fraction of the same value
den_divides : (p r : ℤ) (q s : ℕ) → gcd (unsigned_abs p) q ≡ 1 → p *ℤ pos s ≡ r *ℤ pos q → q ∣ s
den_divides p r q s e v =
    let sizes : unsigned_abs p * s ≡ unsigned_abs r * q =
    sym (unsigned_abs-mul p (pos s)) ∙ ap unsigned_abs v ∙ unsigned_abs-mul r (pos q) in
    divides_factor q (unsigned_abs p) s (coprime_comm (unsigned_abs p) q e)
    (subst (λ n. q ∣ n) (sym sizes) (dvd-mul_left q (unsigned_abs r)))

pub cancelled : (k : ℕ) (x y : ℤ) → 0 < k → x *ℤ pos k ≡ y *ℤ pos k → x ≡ y
cancelled k x y h e =
    cmp_equal_numbers x y
    (cmp_scaled k x y h ∙ ap (λ z. int_cmp z (y *ℤ pos k)) e ∙ tied_itself int_cmp_total (y *ℤ pos k))

pub lowest_terms_unique : (a b : Fraction) → IsReduced a → IsReduced b → 0 < b.den → a.num *ℤ pos b.den ≡ b.num *ℤ pos a.den → a ≡ b
lowest_terms_unique a b p q h v =
    let dens : a.den ≡ b.den =
    dvd_antisymm (den_divides a.num b.num a.den b.den p v) (den_divides b.num a.num b.den a.den q (sym v)) in
    let nums : a.num ≡ b.num = cancelled b.den a.num b.num h (v ∙ ap (λ n. b.num *ℤ pos n) dens) in
    same_fraction a.num b.num a.den b.den nums dens

pub cmp_equal : (a b : Fraction) → IsReduced a → IsReduced b → 0 < b.den → fraction_cmp a b ≡ Equal → a ≡ b
cmp_equal a b p q h e =
    lowest_terms_unique a b p q h (cmp_equal_numbers (a.num *ℤ pos b.den) (b.num *ℤ pos a.den) e)

pub cmp_of_same : (a b : Fraction) → a ≡ b → fraction_cmp a b ≡ Equal
cmp_of_same a b e = ap (fraction_cmp a) (sym e) ∙ cmp_itself a

-- two numbers are the same, or one is less
pub cmp_connects : (a b : Fraction) → IsNumber a → IsNumber b → (fraction_cmp a b ≡ Less) ⊎ ((a ≡ b) ⊎ (fraction_cmp b a ≡ Less))
cmp_connects a b m n = go (fraction_cmp a b) refl
  where
    go : (r : Ordering) → fraction_cmp a b ≡ r → (fraction_cmp a b ≡ Less) ⊎ ((a ≡ b) ⊎ (fraction_cmp b a ≡ Less))
    go Less e = inl e
    go Equal e = inr (inl (cmp_equal a b m.reduced n.reduced n.positive e))
    go Greater e = inr (inr (cmp_reverses b a ∙ ap ordering_reverse e))
