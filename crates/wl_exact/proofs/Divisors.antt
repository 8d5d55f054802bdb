-- The greatest common divisor, and numbers without a common divisor.
use Rattle.std.proofs.Common.{◌≡◌, ℕ, zero, suc, ◌*◌, ◌-◌, ◌/◌, ◌%◌, ◌^◌, ◌<◌, ◌≤◌, refl, sym, ◌∙◌, ap, subst, arith}
use Rattle.std.proofs.Math.Nat.{mul_comm, mul_assoc, mul-sub, mul-zero, mul-one, mod-eq-sub-mul-div, mul-div-mul_left, mod-lt, dvd_refl, dvd_trans, dvd-mul_left, eq-one_of_dvd-one, mul-div_cancel', eq_of_mul-eq-mul_left, pow-zero, pow-suc, pos_of_dvd_of_pos, le_of_dvd, dvd-zero}
use Rattle.std.specs.Int.{◌∣◌, IsGcd}
use Rattle.std.proofs.lemmas.Nat.Gcd.{IsGcd-from_zero, IsGcd-from_mod, IsGcd-swap, same_from_IsGcd}
use Rattle.wl_exact.specs.Gcd.{gcd, gcd_within}

-- ---- the greatest common divisor is what its name says

gcd_within_is : (k a b : ℕ) → b ≤ k → IsGcd a b (gcd_within k a b)
gcd_within_is zero a b h = IsGcd-from_zero a b (omega arith)
gcd_within_is (suc k) a zero h = IsGcd-from_zero a 0 refl
gcd_within_is (suc k) a (suc b) h =
    let small : a % suc b < suc b = mod-lt a (omega arith) in
    IsGcd-from_mod a (suc b) _ (gcd_within_is k (suc b) (a % suc b) (omega arith))

pub gcd_is : (a b : ℕ) → IsGcd a b (gcd a b)
gcd_is a b = gcd_within_is b a b (omega arith)

pub gcd_from : (a b g : ℕ) → IsGcd a b g → g ≡ gcd a b
gcd_from a b g h = same_from_IsGcd a b g (gcd a b) h (gcd_is a b)

pub gcd_zero : (a b : ℕ) → b ≡ 0 → gcd a b ≡ a
gcd_zero a b e = sym (gcd_from a b a (IsGcd-from_zero a b e))

pub gcd_step : (a b : ℕ) → gcd b (a % b) ≡ gcd a b
gcd_step a b = gcd_from a b (gcd b (a % b)) (IsGcd-from_mod a b (gcd b (a % b)) (gcd_is b (a % b)))

pub gcd_comm : (a b : ℕ) → gcd a b ≡ gcd b a
gcd_comm a b = gcd_from b a (gcd a b) (IsGcd-swap a b (gcd a b) (gcd_is a b))

pub gcd_pos_left : (a b : ℕ) → 0 < a → 0 < gcd a b
gcd_pos_left a b h = pos_of_dvd_of_pos (gcd_is a b).0 h

pub gcd_pos_right : (a b : ℕ) → 0 < b → 0 < gcd a b
gcd_pos_right a b h = pos_of_dvd_of_pos (gcd_is a b).1 h

-- the greatest common divisor is below what both numbers are below
pub gcd_below : (a b n : ℕ) → a < n → b < n → gcd a b < n
gcd_below zero b n h l = subst (λ g. g < n) (gcd_from 0 b b (dvd-zero b, dvd_refl b, λ d p q. q)) l
gcd_below (suc a) b n h l =
    let le : gcd (suc a) b ≤ suc a = le_of_dvd (omega arith) (gcd_is (suc a) b).0 in
    omega arith

-- ---- a common factor

scaled_mod : (k a b : ℕ) → 0 < k → (k * a) % (k * b) ≡ k * (a % b)
scaled_mod k a b h =
    mod-eq-sub-mul-div (k * a) (k * b)
    ∙ ap (λ q. k * a - k * b * q) (mul-div-mul_left a b h)
    ∙ ap (λ m. k * a - m) (mul_assoc k b (a / b))
    ∙ sym (mul-sub k a (b * (a / b)))
    ∙ ap (λ m. k * m) (sym (mod-eq-sub-mul-div a b))

scaled_within : (k : ℕ) → 0 < k → (f a b : ℕ) → b ≤ f → IsGcd (k * a) (k * b) (k * gcd_within f a b)
scaled_within k p zero a b h = IsGcd-from_zero (k * a) (k * b) (ap (λ n. k * n) (omega arith) ∙ mul-zero k)
scaled_within k p (suc f) a zero h = IsGcd-from_zero (k * a) (k * 0) (mul-zero k)
scaled_within k p (suc f) a (suc b) h =
    let small : a % suc b < suc b = mod-lt a (omega arith) in
    IsGcd-from_mod (k * a) (k * suc b) _
    (subst (λ m. IsGcd (k * suc b) m (k * gcd_within f (suc b) (a % suc b))) (sym (scaled_mod k a (suc b) p))
    (scaled_within k p f (suc b) (a % suc b) (omega arith)))

pub gcd_scaled : (k a b : ℕ) → 0 < k → gcd (k * a) (k * b) ≡ k * gcd a b
gcd_scaled k a b p = sym (gcd_from (k * a) (k * b) (k * gcd a b) (scaled_within k p b a b (omega arith)))

-- ---- numbers without a common divisor but 1

pub coprime_comm : (a b : ℕ) → gcd a b ≡ 1 → gcd b a ≡ 1
coprime_comm a b e = gcd_comm b a ∙ e

pub coprime_from : (a b : ℕ) → ((d : ℕ) → d ∣ a → d ∣ b → d ∣ 1) → gcd a b ≡ 1
coprime_from a b h = eq-one_of_dvd-one (h (gcd a b) (gcd_is a b).0 (gcd_is a b).1)

pub coprime_divides_one : (a b d : ℕ) → gcd a b ≡ 1 → d ∣ a → d ∣ b → d ∣ 1
coprime_divides_one a b d e p q = subst (λ g. d ∣ g) e ((gcd_is a b).2 d p q)

pub coprime_divisors : (a b c d : ℕ) → c ∣ a → d ∣ b → gcd a b ≡ 1 → gcd c d ≡ 1
coprime_divisors a b c d p q e =
    coprime_from c d (λ n l r. coprime_divides_one a b n e (dvd_trans n l p) (dvd_trans n r q))

-- a number that divides a product, and has no divisor in common with one factor, divides the other
pub divides_factor : (a b c : ℕ) → gcd a b ≡ 1 → a ∣ b * c → a ∣ c
divides_factor a b zero e h = dvd-zero a
divides_factor a b (suc c) e h =
    let whole : gcd (suc c * a) (suc c * b) ≡ suc c = gcd_scaled (suc c) a b (omega arith) ∙ ap (λ n. suc c * n) e ∙ mul-one (suc c) in
    subst (λ n. a ∣ n) whole
    ((gcd_is (suc c * a) (suc c * b)).2 a (dvd-mul_left a (suc c)) (subst (λ n. a ∣ n) (mul_comm b (suc c)) h))

pub coprime_mul : (a b c : ℕ) → gcd a c ≡ 1 → gcd b c ≡ 1 → gcd (a * b) c ≡ 1
coprime_mul a b c p q =
    coprime_from (a * b) c
    (λ d l r. coprime_divides_one b c d q (divides_factor d a b (coprime_comm a d (coprime_divisors a c a d (dvd_refl a) r p)) l) r)

pub coprime_pow : (a c n : ℕ) → gcd a c ≡ 1 → gcd (a ^ n) c ≡ 1
coprime_pow a c zero e = rw pow-zero (coprime_from 1 c (λ d p q. p))
coprime_pow a c (suc n) e = rw pow-suc (coprime_mul (a ^ n) a c (coprime_pow a c n e) e)

pub coprime_powers : (a c n m : ℕ) → gcd a c ≡ 1 → gcd (a ^ n) (c ^ m) ≡ 1
coprime_powers a c n m e = coprime_comm (c ^ m) (a ^ n) (coprime_pow c (a ^ n) m (coprime_comm (a ^ n) c (coprime_pow a c n e)))

-- what is left of two numbers after division by their greatest common divisor
pub coprime_parts : (a b : ℕ) → 0 < gcd a b → gcd (a / gcd a b) (b / gcd a b) ≡ 1
coprime_parts a b h =
    let g : ℕ = gcd a b in
    let left : g * (a / g) ≡ a = mul-div_cancel' g (gcd_is a b).0 in
    let right : g * (b / g) ≡ b = mul-div_cancel' g (gcd_is a b).1 in
    eq_of_mul-eq-mul_left g h (gcd (a / g) (b / g)) 1
    (sym (gcd_scaled g (a / g) (b / g) h) ∙ ap (λ n. gcd n (g * (b / g))) left ∙ ap (λ n. gcd a n) right ∙ sym (mul-one g))
