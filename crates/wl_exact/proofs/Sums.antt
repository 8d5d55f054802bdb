-- A sum over the greatest common divisor of the denominators.
use Rattle.std.proofs.Common.{◌≡◌, ℕ, ◌*◌, ◌/◌, ◌<◌, Bool, true, false, ◌&&◌, ℤ, pos, refl, sym, ◌∙◌, ap, subst, arith}
use Rattle.std.specs.Prelude.{◌+ℤ◌, ◌*ℤ◌, cond, Result, Ok, Err, IsTrue, ◌↔◌}
use Rattle.std.proofs.Math.Nat.{mul_left_comm, mul-div_cancel', mul-pos, mul-zero, mul_comm, mul-div_assoc, pos_of_ne-zero}
use Rattle.std.specs.Int.{◌∣◌}
use Rattle.std.proofs.Math.IntN.{+ℤ_comm}
use Rattle.wl_exact.specs.Gcd.{gcd}
use Rattle.wl_exact.specs.Fraction.{Fraction, reduced, in_range}
use Rattle.wl_exact.specs.Arithmetic.{sum_of, sum_fits, sum_overflows, checked_sum, formed, formed_size}
use Rattle.wl_exact.specs.declared.num.NumFault.{NumFault}
use Rattle.wl_exact.specs.declared.num.NumFault.TheVariants.{Overflow}
use Rattle.wl_exact.proofs.Divisors.{gcd_is, gcd_comm, gcd_pos_right}
use Rattle.wl_exact.proofs.Formed.{kept_ok, kept_err, kept_overflow}
use Rattle.wl_exact.proofs.Integers.{scale_scale, scale_add}
use Rattle.wl_exact.proofs.LowestTerms.{reduced_scaled}

pub sum_over_common : (p r : ℤ) (q s : ℕ) → 0 < s → reduced (p *ℤ pos s +ℤ r *ℤ pos q) (q * s) ≡ reduced (p *ℤ pos (s / gcd q s) +ℤ r *ℤ pos (q / gcd q s)) (q * (s / gcd q s))
sum_over_common p r q s h =
    let g : ℕ = gcd q s in
    let left : ℤ = p *ℤ pos (s / g) in
    let right : ℤ = r *ℤ pos (q / g) in
    let whole_q : g * (q / g) ≡ q = mul-div_cancel' g (gcd_is q s).0 in
    let whole_s : g * (s / g) ≡ s = mul-div_cancel' g (gcd_is q s).1 in
    let first : p *ℤ pos s ≡ pos g *ℤ left = ap (λ n. p *ℤ pos n) (sym whole_s) ∙ scale_scale g (s / g) p in
    let second : r *ℤ pos q ≡ pos g *ℤ right = ap (λ n. r *ℤ pos n) (sym whole_q) ∙ scale_scale g (q / g) r in
    let both : p *ℤ pos s +ℤ r *ℤ pos q ≡ pos g *ℤ (left +ℤ right) =
    ap (λ z. z +ℤ r *ℤ pos q) first ∙ ap (λ z. pos g *ℤ left +ℤ z) second ∙ sym (scale_add g left right) in
    let den : q * s ≡ g * (q * (s / g)) = ap (λ n. q * n) (sym whole_s) ∙ mul_left_comm q g (s / g) in
    ap (λ z. reduced z (q * s)) both
    ∙ ap (λ n. reduced (pos g *ℤ (left +ℤ right)) n) den
    ∙ reduced_scaled g (left +ℤ right) (q * (s / g)) (gcd_pos_right q s h)

-- ---- the sum, step by step

abbrev pub left_of : Fraction → Fraction → ℤ
left_of a b = a.num *ℤ pos (b.den / gcd a.den b.den)

abbrev pub right_of : Fraction → Fraction → ℤ
right_of a b = b.num *ℤ pos (a.den / gcd a.den b.den)

abbrev pub den_of : Fraction → Fraction → ℕ
den_of a b = a.den * (b.den / gcd a.den b.den)

-- what the code learns, where it has the divisor by another name
pub told_left : (a b : Fraction) (g : ℕ) (r x : Result ℤ NumFault) → g ≡ gcd a.den b.den → r ≡ formed (a.num *ℤ pos (b.den / g)) → r ≡ x → formed (left_of a b) ≡ x
told_left a b g r x e h w = ap (λ n. formed (a.num *ℤ pos (b.den / n))) (sym e) ∙ sym h ∙ w

pub told_right : (a b : Fraction) (g : ℕ) (r x : Result ℤ NumFault) → g ≡ gcd a.den b.den → r ≡ formed (b.num *ℤ pos (a.den / g)) → r ≡ x → formed (right_of a b) ≡ x
told_right a b g r x e h w = ap (λ n. formed (b.num *ℤ pos (a.den / n))) (sym e) ∙ sym h ∙ w

pub told_den : (a b : Fraction) (g : ℕ) (r x : Result ℕ NumFault) → g ≡ gcd a.den b.den → r ≡ formed_size (a.den * (b.den / g)) → r ≡ x → formed_size (den_of a b) ≡ x
told_den a b g r x e h w = ap (λ n. formed_size (a.den * (b.den / n))) (sym e) ∙ sym h ∙ w

pub den_positive : (a b : Fraction) (d : ℕ) → 0 < a.den → 0 < b.den → formed_size (den_of a b) ≡ Ok d → 0 < d
den_positive a b d p q h =
    let g : ℕ = gcd a.den b.den in
    let whole : g * (b.den / g) ≡ b.den = mul-div_cancel' g (gcd_is a.den b.den).1 in
    let factor : 0 < b.den / g = pos_of_ne-zero (λ e. let none : b.den ≡ 0 = sym whole ∙ ap (λ n. g * n) e ∙ mul-zero g in omega arith) in
    subst (λ n. 0 < n) (sym (kept_ok (in_range (pos (den_of a b))) (den_of a b) d h).1) (mul-pos p factor)

-- a number that does not fit is enough
refused : (a b : Fraction) → sum_fits a b ≡ false → Err Overflow ≡ checked_sum a b
refused a b n = ap (λ t. cond t (Ok (sum_of a b)) (Err Overflow)) (sym n)

pub sum_refused_left : (a b : Fraction) (f : NumFault) → formed (left_of a b) ≡ Err f → Err Overflow ≡ checked_sum a b
sum_refused_left a b f h =
    let no = kept_err (in_range (left_of a b)) (left_of a b) f h in
    refused a b (rw no.0 refl)

pub sum_refused_right : (a b : Fraction) (l : ℤ) (f : NumFault) → formed (left_of a b) ≡ Ok l → formed (right_of a b) ≡ Err f → Err Overflow ≡ checked_sum a b
sum_refused_right a b l f h k =
    let left = kept_ok (in_range (left_of a b)) (left_of a b) l h in
    let no = kept_err (in_range (right_of a b)) (right_of a b) f k in
    refused a b (rw (left.0, no.0) refl)

pub sum_refused_num : (a b : Fraction) (l r : ℤ) (f : NumFault) → formed (left_of a b) ≡ Ok l → formed (right_of a b) ≡ Ok r → formed (l +ℤ r) ≡ Err f → Err Overflow ≡ checked_sum a b
sum_refused_num a b l r f h k n =
    let left = kept_ok (in_range (left_of a b)) (left_of a b) l h in
    let right = kept_ok (in_range (right_of a b)) (right_of a b) r k in
    let no = kept_err (in_range (l +ℤ r)) (l +ℤ r) f n in
    let none : in_range (left_of a b +ℤ right_of a b) ≡ false =
    ap (λ z. in_range (z +ℤ right_of a b)) (sym left.1) ∙ ap (λ z. in_range (l +ℤ z)) (sym right.1) ∙ no.0 in
    refused a b (rw (left.0, right.0, none) refl)

pub sum_refused_den : (a b : Fraction) (l r n : ℤ) (f : NumFault) → formed (left_of a b) ≡ Ok l → formed (right_of a b) ≡ Ok r → formed (l +ℤ r) ≡ Ok n → formed_size (den_of a b) ≡ Err f → Err Overflow ≡ checked_sum a b
sum_refused_den a b l r n f h k m d =
    let left = kept_ok (in_range (left_of a b)) (left_of a b) l h in
    let right = kept_ok (in_range (right_of a b)) (right_of a b) r k in
    let num = kept_ok (in_range (l +ℤ r)) (l +ℤ r) n m in
    let no = kept_err (in_range (pos (den_of a b))) (den_of a b) f d in
    let both : in_range (left_of a b +ℤ right_of a b) ≡ true =
    ap (λ z. in_range (z +ℤ right_of a b)) (sym left.1) ∙ ap (λ z. in_range (l +ℤ z)) (sym right.1) ∙ num.0 in
    refused a b (rw (left.0, right.0, both, no.0) refl)

pub sum_given : (a b : Fraction) (l r n : ℤ) (d : ℕ) → 0 < b.den → formed (left_of a b) ≡ Ok l → formed (right_of a b) ≡ Ok r → formed (l +ℤ r) ≡ Ok n → formed_size (den_of a b) ≡ Ok d → Ok (reduced n d) ≡ checked_sum a b
sum_given a b l r n d p h k m o =
    let left = kept_ok (in_range (left_of a b)) (left_of a b) l h in
    let right = kept_ok (in_range (right_of a b)) (right_of a b) r k in
    let num = kept_ok (in_range (l +ℤ r)) (l +ℤ r) n m in
    let den = kept_ok (in_range (pos (den_of a b))) (den_of a b) d o in
    let both : left_of a b +ℤ right_of a b ≡ l +ℤ r =
    ap (λ z. z +ℤ right_of a b) (sym left.1) ∙ ap (λ z. l +ℤ z) (sym right.1) in
    let both_fit : in_range (left_of a b +ℤ right_of a b) ≡ true = ap in_range both ∙ num.0 in
    let value : sum_of a b ≡ reduced n d =
    sum_over_common a.num b.num a.den b.den p
    ∙ ap (λ z. reduced z (den_of a b)) (both ∙ sym num.1)
    ∙ ap (λ z. reduced n z) (sym den.1) in
    let fits : sum_fits a b ≡ true = rw (left.0, right.0, both_fit, den.0) refl in
    ap (λ x. Ok x) (sym value) ∙ ap (λ t. cond t (Ok (sum_of a b)) (Err Overflow)) (sym fits)

-- ---- the order of the terms

fits_over : Fraction → Fraction → ℕ → Bool
fits_over a b g =
    let left = a.num *ℤ pos (b.den / g) in
    let right = b.num *ℤ pos (a.den / g) in
    in_range left && in_range right && in_range (left +ℤ right) && in_range (pos (a.den * (b.den / g)))

and_swapped : (p q : Bool) → (p && q) ≡ (q && p)
and_swapped true true = refl
and_swapped true false = refl
and_swapped false true = refl
and_swapped false false = refl

fits_turned : (a b : Fraction) (g : ℕ) → g ∣ a.den → g ∣ b.den → fits_over a b g ≡ fits_over b a g
unfolding fits_over
fits_turned a b g h k =
    let left : ℤ = a.num *ℤ pos (b.den / g) in
    let right : ℤ = b.num *ℤ pos (a.den / g) in
    let dens : a.den * (b.den / g) ≡ b.den * (a.den / g) =
    sym (mul-div_assoc g a.den k) ∙ ap (λ n. n / g) (mul_comm a.den b.den) ∙ mul-div_assoc g b.den h in
    ap (λ t. t && in_range (left +ℤ right) && in_range (pos (a.den * (b.den / g)))) (and_swapped (in_range left) (in_range right))
    ∙ ap (λ z. in_range right && in_range left && in_range z && in_range (pos (a.den * (b.den / g)))) (+ℤ_comm left right)
    ∙ ap (λ n. in_range right && in_range left && in_range (right +ℤ left) && in_range (pos n)) dens

sum_fits_turned : (a b : Fraction) → sum_fits a b ≡ sum_fits b a
unfolding fits_over
sum_fits_turned a b =
    fits_turned a b (gcd a.den b.den) (gcd_is a.den b.den).0 (gcd_is a.den b.den).1 ∙ ap (fits_over b a) (gcd_comm a.den b.den)

sum_turned : (a b : Fraction) → sum_of a b ≡ sum_of b a
sum_turned a b =
    ap (λ z. reduced z (a.den * b.den)) (+ℤ_comm (a.num *ℤ pos b.den) (b.num *ℤ pos a.den))
    ∙ ap (λ n. reduced (b.num *ℤ pos a.den +ℤ a.num *ℤ pos b.den) n) (mul_comm a.den b.den)

pub sum_commutes : (a b : Fraction) → checked_sum a b ≡ checked_sum b a
sum_commutes a b =
    ap (λ t. cond t (Ok (sum_of a b)) (Err Overflow)) (sum_fits_turned a b)
    ∙ ap (λ (f : Fraction). cond (sum_fits b a) (Ok f) (Err Overflow)) (sum_turned a b)

-- ---- the fault

pub sum_overflow : (a b : Fraction) (r : Result Fraction NumFault) → r ≡ checked_sum a b → (r ≡ Err Overflow) ↔ IsTrue (sum_overflows a b)
sum_overflow a b r e = kept_overflow (sum_fits a b) (sum_of a b) r e
