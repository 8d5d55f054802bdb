-- Whole numbers: products with a natural number, and exact quotients by one.
use Rattle.std.proofs.Common.{◌≡◌, ℕ, zero, suc, ◌*◌, ◌/◌, ◌<◌, ℤ, pos, negsuc, refl, sym, ◌∙◌, ap, arith}
use Rattle.std.specs.Prelude.{◌+ℤ◌, ◌*ℤ◌, neg_ℤ, unsigned_abs, int_div}
use Rattle.std.specs.Int.{◌∣◌}
use Rattle.std.proofs.Math.Nat.{mul_assoc, mul_left_comm, mul-mul-mul_comm, mul-zero, zero-mul, mul-div-mul_left, mul-div_cancel', zero-div}
use Rattle.std.proofs.Math.IntN.{suc_ℤ-*ℤ, zero-*ℤ}
use Rattle.std.proofs.lemmas.Int.{ints}

-- ---- negative products

pub scale_neg : (k n : ℕ) → pos k *ℤ neg_ℤ (pos n) ≡ neg_ℤ (pos (k * n))
scale_neg k zero = rw mul-zero refl
scale_neg k (suc n) = refl

pub neg_scale : (n k : ℕ) → neg_ℤ (pos n) *ℤ pos k ≡ neg_ℤ (pos (n * k))
neg_scale zero k = rw zero-mul refl
neg_scale (suc n) k = refl

pub neg_neg : (m n : ℕ) → neg_ℤ (pos m) *ℤ neg_ℤ (pos n) ≡ pos (m * n)
neg_neg zero zero = rw zero-mul refl
neg_neg zero (suc n) = rw zero-mul refl
neg_neg (suc m) zero = rw mul-zero refl
neg_neg (suc m) (suc n) = refl

pub unsigned_abs_neg : (n : ℕ) → unsigned_abs (neg_ℤ (pos n)) ≡ n
unsigned_abs_neg zero = refl
unsigned_abs_neg (suc n) = refl

-- ---- products with a natural number

pub scale_scale : (k m : ℕ) (x : ℤ) → x *ℤ pos (k * m) ≡ pos k *ℤ (x *ℤ pos m)
scale_scale k m (pos a) = ap pos (mul_left_comm a k m)
scale_scale k m (negsuc a) = ap (λ n. neg_ℤ (pos n)) (mul_left_comm (suc a) k m) ∙ sym (scale_neg k (suc a * m))

pub scale_twice : (k m : ℕ) (x : ℤ) → x *ℤ pos (k * m) ≡ (x *ℤ pos k) *ℤ pos m
scale_twice k m (pos a) = ap pos (sym (mul_assoc a k m))
scale_twice k m (negsuc a) = ap (λ n. neg_ℤ (pos n)) (sym (mul_assoc (suc a) k m)) ∙ sym (neg_scale (suc a * k) m)

pub scale_add : (k : ℕ) (x y : ℤ) → pos k *ℤ (x +ℤ y) ≡ pos k *ℤ x +ℤ pos k *ℤ y
scale_add zero x y = rw (zero-*ℤ (x +ℤ y), zero-*ℤ x, zero-*ℤ y) refl
scale_add (suc k) x y =
    let next : (z : ℤ) → pos (suc k) *ℤ z ≡ pos k *ℤ z +ℤ z = λ z. suc_ℤ-*ℤ (pos k) z in
    let before : pos k *ℤ (x +ℤ y) ≡ pos k *ℤ x +ℤ pos k *ℤ y = scale_add k x y in
    rw (next (x +ℤ y), next x, next y, before) (omega (arith, ints))

pub scale_mul : (g h : ℕ) (x y : ℤ) → (pos g *ℤ x) *ℤ (pos h *ℤ y) ≡ pos (g * h) *ℤ (x *ℤ y)
scale_mul g h (pos a) (pos b) = ap pos (mul-mul-mul_comm g a h b)
scale_mul g h (pos a) (negsuc b) =
    scale_neg (g * a) (h * suc b) ∙ ap (λ n. neg_ℤ (pos n)) (mul-mul-mul_comm g a h (suc b)) ∙ sym (scale_neg (g * h) (a * suc b))
scale_mul g h (negsuc a) (pos b) =
    neg_scale (g * suc a) (h * b) ∙ ap (λ n. neg_ℤ (pos n)) (mul-mul-mul_comm g (suc a) h b) ∙ sym (scale_neg (g * h) (suc a * b))
scale_mul g h (negsuc a) (negsuc b) = neg_neg (g * suc a) (h * suc b) ∙ ap pos (mul-mul-mul_comm g (suc a) h (suc b))

-- ---- quotients by a natural number

pub over_neg : (n g : ℕ) → int_div (neg_ℤ (pos n)) (pos g) ≡ neg_ℤ (pos (n / g))
over_neg zero g = rw zero-div refl
over_neg (suc n) g = refl

pub over_scaled : (k g : ℕ) (x : ℤ) → 0 < k → int_div (pos k *ℤ x) (pos (k * g)) ≡ int_div x (pos g)
over_scaled k g (pos a) h = ap pos (mul-div-mul_left a g h)
over_scaled k g (negsuc a) h = over_neg (k * suc a) (k * g) ∙ ap (λ n. neg_ℤ (pos n)) (mul-div-mul_left (suc a) g h)

pub unsigned_abs_over : (x : ℤ) (g : ℕ) → unsigned_abs (int_div x (pos g)) ≡ unsigned_abs x / g
unsigned_abs_over (pos a) g = refl
unsigned_abs_over (negsuc a) g = unsigned_abs_neg (suc a / g)

pub scale_over : (x : ℤ) (g : ℕ) → g ∣ unsigned_abs x → pos g *ℤ int_div x (pos g) ≡ x
scale_over (pos a) g h = ap pos (mul-div_cancel' g h)
scale_over (negsuc a) g h = scale_neg g (suc a / g) ∙ ap (λ n. neg_ℤ (pos n)) (mul-div_cancel' g h)
