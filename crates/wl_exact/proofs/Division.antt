-- Quotients of whole numbers that are rounded down, and what they leave.
use Rattle.std.proofs.Common.{◌≡◌, ℕ, suc, ◌+◌, ◌*◌, ◌/◌, ◌%◌, ◌<◌, ℤ, pos, negsuc, refl, sym, ◌∙◌, ap, subst, arith}
use Rattle.std.specs.Prelude.{◌+ℤ◌, ◌-ℤ◌, ◌*ℤ◌, ◌≤ℤ◌, ◌<ℤ◌, neg_ℤ}
use Rattle.std.specs.Int.{int_div_euclid}
use Rattle.std.proofs.Math.Nat.{div-add-mod, mod-lt, mul-suc, mul_comm}
use Rattle.std.proofs.Math.IntN.{neg_ℤ-neg_ℤ}
use Rattle.std.proofs.lemmas.Int.{ints}
use Rattle.wl_exact.specs.Fraction.{Fraction}
use Rattle.wl_exact.specs.Arithmetic.{whole_quotient, whole_remainder, floor_of}
use Rattle.wl_exact.proofs.Integers.{neg_scale}

kept_sum : (x n : ℤ) → x +ℤ (n -ℤ x) ≡ n
kept_sum x n = omega (arith, ints)

pub quotient_and_remainder : (n m : ℤ) → m *ℤ whole_quotient n m +ℤ whole_remainder n m ≡ n
quotient_and_remainder n m = kept_sum (m *ℤ whole_quotient n m) n

-- what a positive divisor leaves
record IsBelow (r : ℤ) (d : ℕ) : Type 0 where
  low : pos 0 ≤ℤ r
  high : r <ℤ pos d

left_over : (n : ℤ) (d : ℕ) → 0 < d → IsBelow (n -ℤ pos d *ℤ int_div_euclid n (pos d)) d
left_over (pos a) d h =
    let whole : d * (a / d) + a % d ≡ a = div-add-mod a d in
    let small : a % d < d = mod-lt a h in
    record { low = omega (arith, ints); high = omega (arith, ints) }
left_over (negsuc a) d h =
    let whole : d * (a / d) + a % d ≡ a = div-add-mod a d in
    let small : a % d < d = mod-lt a h in
    let next : d * suc (a / d) ≡ d * (a / d) + d = mul-suc d (a / d) in
    record { low = omega (arith, ints); high = omega (arith, ints) }

opposite : (d : ℕ) (q : ℤ) → negsuc d *ℤ q ≡ neg_ℤ (pos (suc d) *ℤ q)
opposite d (pos b) = refl
opposite d (negsuc b) = sym (neg_ℤ-neg_ℤ (pos (suc d * suc b)))

turned : (n x : ℤ) → n -ℤ neg_ℤ x ≡ neg_ℤ (neg_ℤ n -ℤ x)
turned n x = omega (arith, ints)

remainder_turned : (n : ℤ) (d : ℕ) → whole_remainder n (negsuc d) ≡ neg_ℤ (neg_ℤ n -ℤ pos (suc d) *ℤ int_div_euclid (neg_ℤ n) (pos (suc d)))
remainder_turned n d =
    let q : ℤ = int_div_euclid (neg_ℤ n) (pos (suc d)) in
    ap (λ z. n -ℤ z) (opposite d q) ∙ turned n (pos (suc d) *ℤ q)

above_zero : (n m : ℤ) → pos 0 <ℤ m → (pos 0 ≤ℤ whole_remainder n m) × (whole_remainder n m <ℤ m)
above_zero n (pos d) h =
    let some : 0 < d = omega (arith, ints) in
    ((left_over n d some).low, (left_over n d some).high)
above_zero n (negsuc d) h = absurd (omega (arith, ints))

flipped : (r : ℤ) (d : ℕ) → IsBelow r (suc d) → (neg_ℤ r ≤ℤ pos 0) × (negsuc d <ℤ neg_ℤ r)
flipped r d h =
    let low : pos 0 ≤ℤ r = h.low in
    let high : r <ℤ pos (suc d) = h.high in
    (omega (arith, ints), omega (arith, ints))

below_zero : (n m : ℤ) → m <ℤ pos 0 → (whole_remainder n m ≤ℤ pos 0) × (m <ℤ whole_remainder n m)
below_zero n (pos d) h = absurd (omega (arith, ints))
below_zero n (negsuc d) h =
    let r : ℤ = neg_ℤ n -ℤ pos (suc d) *ℤ int_div_euclid (neg_ℤ n) (pos (suc d)) in
    let Between : ℤ → Type 0 = λ z. (z ≤ℤ pos 0) × (negsuc d <ℤ z) in
    subst Between (sym (remainder_turned n d)) (flipped r d (left_over (neg_ℤ n) (suc d) (omega arith)))

pub remainder_below : (n m : ℤ) → (pos 0 <ℤ m → (pos 0 ≤ℤ whole_remainder n m) × (whole_remainder n m <ℤ m)) × (m <ℤ pos 0 → (whole_remainder n m ≤ℤ pos 0) × (m <ℤ whole_remainder n m))
remainder_below n m = (above_zero n m, below_zero n m)

floor_at : (n : ℤ) (d : ℕ) → 0 < d → ((int_div_euclid n (pos d) *ℤ pos d) ≤ℤ n) × (n <ℤ ((int_div_euclid n (pos d) +ℤ pos 1) *ℤ pos d))
floor_at (pos a) d h =
    let whole : d * (a / d) + a % d ≡ a = div-add-mod a d in
    let small : a % d < d = mod-lt a h in
    let now : a / d * d ≡ d * (a / d) = mul_comm (a / d) d in
    let next : (a / d + 1) * d ≡ d * (a / d) + d = grind arith in
    (omega (arith, ints), omega (arith, ints))
floor_at (negsuc a) d h =
    let whole : d * (a / d) + a % d ≡ a = div-add-mod a d in
    let small : a % d < d = mod-lt a h in
    let now : suc (a / d) * d ≡ d * (a / d) + d = mul_comm (suc (a / d)) d ∙ mul-suc d (a / d) in
    let one_less : negsuc (a / d) +ℤ pos 1 ≡ neg_ℤ (pos (a / d)) = omega (arith, ints) in
    let product : (negsuc (a / d) +ℤ pos 1) *ℤ pos d ≡ neg_ℤ (pos (a / d * d)) = ap (λ z. z *ℤ pos d) one_less ∙ neg_scale (a / d) d in
    let least : a / d * d ≡ d * (a / d) = mul_comm (a / d) d in
    let above : negsuc a <ℤ neg_ℤ (pos (a / d * d)) = omega (arith, ints) in
    (omega (arith, ints), subst (λ z. negsuc a <ℤ z) (sym product) above)

pub floor_is_greatest : (f : Fraction) → 0 < f.den → (((floor_of f).num *ℤ pos f.den) ≤ℤ f.num) × (f.num <ℤ (((floor_of f).num +ℤ pos 1) *ℤ pos f.den))
floor_is_greatest f h = floor_at f.num f.den h
