-- Fractions in lowest terms.
use Rattle.std.proofs.Common.{◌≡◌, ℕ, suc, ◌*◌, ◌/◌, ◌^◌, ◌<◌, ◌≤◌, ℤ, pos, negsuc, refl, sym, ◌∙◌, ap, arith}
use Rattle.std.specs.Prelude.{◌*ℤ◌, unsigned_abs, int_div}
use Rattle.std.proofs.Math.Nat.{mul-div-mul_left, div-one, mul-div_cancel', div-le_self, pos_of_ne-zero, mul-zero}
use Rattle.std.proofs.Math.IntN.{*ℤ_comm}
use Rattle.std.proofs.lemmas.Int.{unsigned_abs-mul}
use Rattle.wl_exact.specs.Gcd.{gcd}
use Rattle.wl_exact.specs.Fraction.{Fraction, reduced, IsReduced, InRange, IsNumber}
use Rattle.wl_exact.proofs.Divisors.{gcd_is, gcd_scaled, gcd_pos_right, coprime_parts}
use Rattle.wl_exact.proofs.Integers.{over_scaled, unsigned_abs_over, scale_over, scale_twice}

pub same_fraction : (p r : ℤ) (q s : ℕ) → p ≡ r → q ≡ s → let f : Fraction = record { num = p; den = q } in f ≡ record { num = r; den = s }
same_fraction p r q s e f = ap (λ n. record { num = n; den = q }) e ∙ ap (λ n. record { num = r; den = n }) f

-- a common factor makes no difference
pub reduced_scaled : (k : ℕ) (p : ℤ) (q : ℕ) → 0 < k → reduced (pos k *ℤ p) (k * q) ≡ reduced p q
reduced_scaled k p q h =
    let common : gcd (unsigned_abs (pos k *ℤ p)) (k * q) ≡ k * gcd (unsigned_abs p) q =
    ap (λ n. gcd n (k * q)) (unsigned_abs-mul (pos k) p) ∙ gcd_scaled k (unsigned_abs p) q h in
    ap (λ g. record { num = int_div (pos k *ℤ p) (pos g); den = k * q / g }) common
    ∙ same_fraction _ _ _ _ (over_scaled k (gcd (unsigned_abs p) q) p h) (mul-div-mul_left q (gcd (unsigned_abs p) q) h)

over_one : (p : ℤ) → int_div p (pos 1) ≡ p
over_one (pos a) = ap pos (div-one a)
over_one (negsuc a) = rw (div-one (suc a)) refl

-- a fraction in lowest terms is its own
pub reduced_is : (p : ℤ) (q : ℕ) → gcd (unsigned_abs p) q ≡ 1 → reduced p q ≡ record { num = p; den = q }
reduced_is p q e =
    ap (λ g. record { num = int_div p (pos g); den = q / g }) e ∙ same_fraction _ _ _ _ (over_one p) (div-one q)

pub reduced_is_reduced : (p : ℤ) (q : ℕ) → 0 < q → IsReduced (reduced p q)
reduced_is_reduced p q h =
    let g : ℕ = gcd (unsigned_abs p) q in
    ap (λ n. gcd n (q / g)) (unsigned_abs_over p g) ∙ coprime_parts (unsigned_abs p) q (gcd_pos_right (unsigned_abs p) q h)

pub reduced_positive : (p : ℤ) (q : ℕ) → 0 < q → 0 < (reduced p q).den
reduced_positive p q h =
    let g : ℕ = gcd (unsigned_abs p) q in
    let whole : g * (q / g) ≡ q = mul-div_cancel' g (gcd_is (unsigned_abs p) q).1 in
    pos_of_ne-zero (λ e. let none : q ≡ 0 = sym whole ∙ ap (λ n. g * n) e ∙ mul-zero g in omega arith)

pub reduced_in_range : (p : ℤ) (q : ℕ) → unsigned_abs p < 2 ^ 127 → q < 2 ^ 127 → InRange (reduced p q)
reduced_in_range p q a b =
    let g : ℕ = gcd (unsigned_abs p) q in
    let above : unsigned_abs p / g ≤ unsigned_abs p = div-le_self (unsigned_abs p) g in
    let below : q / g ≤ q = div-le_self q g in
    record { num = rw unsigned_abs_over (omega arith); den = omega arith }

pub reduced_is_number : (p : ℤ) (q : ℕ) → 0 < q → unsigned_abs p < 2 ^ 127 → q < 2 ^ 127 → IsNumber (reduced p q)
reduced_is_number p q h a b = record {
  reduced = reduced_is_reduced p q h;
  positive = reduced_positive p q h;
  range = reduced_in_range p q a b;
}

-- the fraction in lowest terms has the value of p/q
pub reduced_value : (p : ℤ) (q : ℕ) → (reduced p q).num *ℤ pos q ≡ p *ℤ pos (reduced p q).den
reduced_value p q =
    let g : ℕ = gcd (unsigned_abs p) q in
    let num : ℤ = int_div p (pos g) in
    let whole_p : pos g *ℤ num ≡ p = scale_over p g (gcd_is (unsigned_abs p) q).0 in
    let whole_q : g * (q / g) ≡ q = mul-div_cancel' g (gcd_is (unsigned_abs p) q).1 in
    ap (λ n. num *ℤ pos n) (sym whole_q)
    ∙ scale_twice g (q / g) num
    ∙ ap (λ z. z *ℤ pos (q / g)) (*ℤ_comm num (pos g) ∙ whole_p)
