-- A product whose factors are freed of what they share first.
use Rattle.std.proofs.Common.{◌≡◌, ◌&&◌, ℕ, ◌*◌, ◌/◌, ◌<◌, true, false, ℤ, pos, sym, ◌∙◌, ap, subst}
use Rattle.std.specs.Prelude.{◌*ℤ◌, unsigned_abs, int_div, cond, Result, Ok, Err, IsTrue, ◌↔◌}
use Rattle.std.specs.Int.{◌∣◌}
use Rattle.std.proofs.Math.Nat.{mul_comm, mul-mul-mul_comm, mul-div_cancel', mul-pos, dvd-mul_left}
use Rattle.std.proofs.Math.IntN.{*ℤ_comm}
use Rattle.std.proofs.lemmas.Int.{unsigned_abs-mul}
use Rattle.wl_exact.specs.Gcd.{gcd}
use Rattle.wl_exact.specs.Fraction.{Fraction, reduced, in_range, parts_in_range, IsReduced, IsNumber}
use Rattle.wl_exact.specs.Arithmetic.{product_of, product_fits, product_overflows, checked_product, formed, formed_size}
use Rattle.wl_exact.specs.declared.num.NumFault.{NumFault}
use Rattle.wl_exact.specs.declared.num.NumFault.TheVariants.{Overflow}
use Rattle.wl_exact.proofs.Formed.{kept_ok, kept_err, kept_overflow}
use Rattle.wl_exact.proofs.Divisors.{gcd_is, gcd_pos_right, coprime_comm, coprime_mul, coprime_parts, coprime_divisors}
use Rattle.wl_exact.proofs.Integers.{scale_mul, scale_over, unsigned_abs_over}
use Rattle.wl_exact.proofs.LowestTerms.{same_fraction, reduced_scaled, reduced_is, reduced_is_reduced, reduced_positive}

quotient_divides : (g n : ℕ) → g ∣ n → n / g ∣ n
quotient_divides g n h = subst (λ m. n / g ∣ m) (mul-div_cancel' g h) (dvd-mul_left (n / g) g)

-- what is left of one numerator shares nothing with what is left of the denominators
apart : (a q h s : ℕ) → gcd a q ≡ 1 → h ∣ q → 0 < s → gcd (a / gcd a s) (q / h * (s / gcd a s)) ≡ 1
apart a q h s e d p =
    let g : ℕ = gcd a s in
    let own : gcd (a / g) (q / h) ≡ 1 = coprime_divisors a q (a / g) (q / h) (quotient_divides g a (gcd_is a s).0) (quotient_divides h q d) e in
    let other : gcd (a / g) (s / g) ≡ 1 = coprime_parts a s (gcd_pos_right a s p) in
    coprime_comm (q / h * (s / g)) (a / g)
    (coprime_mul (q / h) (s / g) (a / g) (coprime_comm (a / g) (q / h) own) (coprime_comm (a / g) (s / g) other))

-- the same for both
parts_apart : (a b q s : ℕ) → gcd a q ≡ 1 → gcd b s ≡ 1 → 0 < q → 0 < s → gcd (a / gcd a s * (b / gcd b q)) (q / gcd b q * (s / gcd a s)) ≡ 1
parts_apart a b q s e f p r =
    let g : ℕ = gcd a s in
    let h : ℕ = gcd b q in
    let turned : gcd (b / h) (q / h * (s / g)) ≡ 1 =
    ap (λ n. gcd (b / h) n) (mul_comm (q / h) (s / g)) ∙ apart b s g q f (gcd_is a s).1 p in
    coprime_mul (a / g) (b / h) (q / h * (s / g)) (apart a q h s e (gcd_is b q).1 r) turned

pub product_over_common : (p r : ℤ) (q s : ℕ) → gcd (unsigned_abs p) q ≡ 1 → gcd (unsigned_abs r) s ≡ 1 → 0 < q → 0 < s → reduced (p *ℤ r) (q * s) ≡ record { num = int_div p (pos (gcd (unsigned_abs p) s)) *ℤ int_div r (pos (gcd (unsigned_abs r) q)); den = q / gcd (unsigned_abs r) q * (s / gcd (unsigned_abs p) s) }
product_over_common p r q s e f a b =
    let g : ℕ = gcd (unsigned_abs p) s in
    let h : ℕ = gcd (unsigned_abs r) q in
    let left : ℤ = int_div p (pos g) in
    let right : ℤ = int_div r (pos h) in
    let den : ℕ = q / h * (s / g) in
    let whole_p : pos g *ℤ left ≡ p = scale_over p g (gcd_is (unsigned_abs p) s).0 in
    let whole_r : pos h *ℤ right ≡ r = scale_over r h (gcd_is (unsigned_abs r) q).0 in
    let whole_q : h * (q / h) ≡ q = mul-div_cancel' h (gcd_is (unsigned_abs r) q).1 in
    let whole_s : g * (s / g) ≡ s = mul-div_cancel' g (gcd_is (unsigned_abs p) s).1 in
    let numerators : p *ℤ r ≡ pos (g * h) *ℤ (left *ℤ right) =
    ap (λ z. z *ℤ r) (sym whole_p) ∙ ap (λ z. (pos g *ℤ left) *ℤ z) (sym whole_r) ∙ scale_mul g h left right in
    let denominators : q * s ≡ g * h * den =
    ap (λ n. n * s) (sym whole_q) ∙ ap (λ n. h * (q / h) * n) (sym whole_s) ∙ mul-mul-mul_comm h (q / h) g (s / g) ∙ ap (λ n. n * den) (mul_comm h g) in
    let sizes : unsigned_abs (left *ℤ right) ≡ unsigned_abs p / g * (unsigned_abs r / h) =
    unsigned_abs-mul left right ∙ ap (λ n. n * unsigned_abs right) (unsigned_abs_over p g) ∙ ap (λ n. unsigned_abs p / g * n) (unsigned_abs_over r h) in
    ap (λ z. reduced z (q * s)) numerators
    ∙ ap (λ n. reduced (pos (g * h) *ℤ (left *ℤ right)) n) denominators
    ∙ reduced_scaled (g * h) (left *ℤ right) den (mul-pos (gcd_pos_right (unsigned_abs p) s b) (gcd_pos_right (unsigned_abs r) q a))
    ∙ reduced_is (left *ℤ right) den (ap (λ n. gcd n den) sizes ∙ parts_apart (unsigned_abs p) (unsigned_abs r) q s e f a b)

-- ---- the product, step by step

abbrev pub num_of : Fraction → Fraction → ℤ
num_of a b =
    int_div a.num (pos (gcd (unsigned_abs a.num) b.den)) *ℤ int_div b.num (pos (gcd (unsigned_abs b.num) a.den))

abbrev pub den_of : Fraction → Fraction → ℕ
den_of a b = a.den / gcd (unsigned_abs b.num) a.den * (b.den / gcd (unsigned_abs a.num) b.den)

pub product_formed : (a b : Fraction) → IsNumber a → IsNumber b → product_of a b ≡ record { num = num_of a b; den = den_of a b }
product_formed a b m n = product_over_common a.num b.num a.den b.den m.reduced n.reduced m.positive n.positive

fits_is : (a b : Fraction) → IsNumber a → IsNumber b → product_fits a b ≡ (in_range (num_of a b) && in_range (pos (den_of a b)))
fits_is a b m n = ap parts_in_range (product_formed a b m n)

-- what the code learns, where it has the divisors and the quotients by other names
pub told_num : (a b : Fraction) (g h : ℕ) (x y : ℤ) (r o : Result ℤ NumFault) → g ≡ gcd (unsigned_abs a.num) b.den → h ≡ gcd (unsigned_abs b.num) a.den → x ≡ int_div a.num (pos g) → y ≡ int_div b.num (pos h) → r ≡ formed (x *ℤ y) → r ≡ o → formed (num_of a b) ≡ o
told_num a b g h x y r o eg eh ex ey er w =
    let left : int_div a.num (pos (gcd (unsigned_abs a.num) b.den)) ≡ x = ap (λ n. int_div a.num (pos n)) (sym eg) ∙ sym ex in
    let right : int_div b.num (pos (gcd (unsigned_abs b.num) a.den)) ≡ y = ap (λ n. int_div b.num (pos n)) (sym eh) ∙ sym ey in
    ap (λ z. formed (z *ℤ int_div b.num (pos (gcd (unsigned_abs b.num) a.den)))) left
    ∙ ap (λ z. formed (x *ℤ z)) right
    ∙ sym er
    ∙ w

pub told_den : (a b : Fraction) (g h : ℕ) (r o : Result ℕ NumFault) → g ≡ gcd (unsigned_abs a.num) b.den → h ≡ gcd (unsigned_abs b.num) a.den → r ≡ formed_size (a.den / h * (b.den / g)) → r ≡ o → formed_size (den_of a b) ≡ o
told_den a b g h r o eg eh er w =
    ap (λ n. formed_size (a.den / n * (b.den / gcd (unsigned_abs a.num) b.den))) (sym eh)
    ∙ ap (λ n. formed_size (a.den / h * (b.den / n))) (sym eg)
    ∙ sym er
    ∙ w

-- a number that does not fit is enough
refused : (a b : Fraction) → product_fits a b ≡ false → Err Overflow ≡ checked_product a b
refused a b n = ap (λ t. cond t (Ok (product_of a b)) (Err Overflow)) (sym n)

pub product_refused_num : (a b : Fraction) (f : NumFault) → IsNumber a → IsNumber b → formed (num_of a b) ≡ Err f → Err Overflow ≡ checked_product a b
product_refused_num a b f m n h =
    let no = kept_err (in_range (num_of a b)) (num_of a b) f h in
    refused a b (fits_is a b m n ∙ ap (λ t. t && in_range (pos (den_of a b))) no.0)

pub product_refused_den : (a b : Fraction) (z : ℤ) (f : NumFault) → IsNumber a → IsNumber b → formed (num_of a b) ≡ Ok z → formed_size (den_of a b) ≡ Err f → Err Overflow ≡ checked_product a b
product_refused_den a b z f m n h k =
    let num = kept_ok (in_range (num_of a b)) (num_of a b) z h in
    let no = kept_err (in_range (pos (den_of a b))) (den_of a b) f k in
    refused a b (fits_is a b m n ∙ ap (λ t. t && in_range (pos (den_of a b))) num.0 ∙ no.0)

-- the product that was formed
pub product_given : (a b : Fraction) (z : ℤ) (d : ℕ) → IsNumber a → IsNumber b → formed (num_of a b) ≡ Ok z → formed_size (den_of a b) ≡ Ok d → Ok (record { num = z; den = d }) ≡ checked_product a b
product_given a b z d m n h k =
    let num = kept_ok (in_range (num_of a b)) (num_of a b) z h in
    let den = kept_ok (in_range (pos (den_of a b))) (den_of a b) d k in
    let fits : product_fits a b ≡ true = fits_is a b m n ∙ ap (λ t. t && in_range (pos (den_of a b))) num.0 ∙ den.0 in
    let value : record { num = z; den = d } ≡ product_of a b = same_fraction _ _ _ _ num.1 den.1 ∙ sym (product_formed a b m n) in
    ap (λ x. Ok x) value ∙ ap (λ t. cond t (Ok (product_of a b)) (Err Overflow)) (sym fits)

-- what the number asks of its parts
pub record IsLowest (z : ℤ) (d : ℕ) : Type 0 where
  pub reduced : gcd (unsigned_abs z) d ≡ 1
  pub positive : 0 < d

pub product_lowest : (a b : Fraction) (z : ℤ) (d : ℕ) → IsNumber a → IsNumber b → formed (num_of a b) ≡ Ok z → formed_size (den_of a b) ≡ Ok d → IsLowest z d
product_lowest a b z d m n h k =
    let num = kept_ok (in_range (num_of a b)) (num_of a b) z h in
    let den = kept_ok (in_range (pos (den_of a b))) (den_of a b) d k in
    let value : product_of a b ≡ record { num = z; den = d } =
    product_formed a b m n ∙ same_fraction _ _ _ _ (sym num.1) (sym den.1) in
    let whole : 0 < a.den * b.den = mul-pos m.positive n.positive in
    record {
      reduced = subst IsReduced value (reduced_is_reduced (a.num *ℤ b.num) (a.den * b.den) whole);
      positive = subst (λ (f : Fraction). 0 < f.den) value (reduced_positive (a.num *ℤ b.num) (a.den * b.den) whole);
    }

-- ---- the order of the factors

product_turned : (a b : Fraction) → product_of a b ≡ product_of b a
product_turned a b =
    ap (λ z. reduced z (a.den * b.den)) (*ℤ_comm a.num b.num) ∙ ap (λ n. reduced (b.num *ℤ a.num) n) (mul_comm a.den b.den)

pub product_commutes : (a b : Fraction) → checked_product a b ≡ checked_product b a
product_commutes a b =
    ap (λ (f : Fraction). cond (parts_in_range f) (Ok f) (Err Overflow)) (product_turned a b)

-- ---- the fault

pub product_overflow : (a b : Fraction) (r : Result Fraction NumFault) → r ≡ checked_product a b → (r ≡ Err Overflow) ↔ IsTrue (product_overflows a b)
product_overflow a b r e = kept_overflow (product_fits a b) (product_of a b) r e
