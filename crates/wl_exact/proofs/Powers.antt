-- Powers of whole numbers and of fractions in lowest terms.
use Rattle.std.proofs.Common.{◌*◌, ◌≡◌, ◌≢◌, ℕ, zero, suc, ◌^◌, ◌<◌, ◌≤◌, ◌%◌, ◌&&◌, not, Bool, true, false, ℤ, pos, negsuc, refl, sym, ◌∙◌, ap, subst, arith}
use Rattle.std.proofs.lemmas.Int.{ints}
use Rattle.std.proofs.Math.Bool.{true≢false}
use Rattle.std.specs.Prelude.{unsigned_abs, neg_ℤ, ◌*ℤ◌, ◌==◌, cond, nat_lt, Result, Ok, Err, IsTrue, ◌↔◌, ◌<ℤ◌}
use Rattle.std.specs.Int.{int_pow, is_negative}
use Rattle.std.proofs.Math.Nat.{pow-le-pow_left, pow-le-pow_right, pow-suc, pow-zero, mul-one, mul-zero, one-le-pow}
use Rattle.wl_exact.specs.Gcd.{gcd}
use Rattle.wl_exact.specs.Fraction.{Fraction, reduced, in_range, parts_in_range, IsReduced}
use Rattle.wl_exact.specs.declared.num.NumFault.TheVariants.{Overflow, ZeroDivisor}
use Rattle.wl_exact.specs.declared.num.NumFault.{NumFault}
use Rattle.wl_exact.specs.Arithmetic.{formed, product_of, with_sign_of, reciprocal_of, is_zero, power_of, power_fits, power_overflows, checked_power}
use Rattle.wl_exact.proofs.Formed.{kept_ok, kept_err, checked_zero_divisor, checked_overflow}
use Rattle.wl_exact.proofs.LowestTerms.{same_fraction, reduced_is}
use Rattle.wl_exact.proofs.Divisors.{coprime_powers}
use Rattle.wl_exact.proofs.Integers.{unsigned_abs_neg, neg_neg}

signed_size : (b : Bool) (n : ℕ) → unsigned_abs (cond b (pos n) (neg_ℤ (pos n))) ≡ n
signed_size true n = refl
signed_size false n = unsigned_abs_neg n

pub unsigned_abs_pow : (p : ℤ) (n : ℕ) → unsigned_abs (int_pow p n) ≡ unsigned_abs p ^ n
unsigned_abs_pow (pos a) n = refl
unsigned_abs_pow (negsuc a) n = signed_size (n % 2 == 0) (suc a ^ n)

one_pow : (n : ℕ) → 1 ^ n ≡ 1
one_pow zero = pow-zero 1
one_pow (suc n) = pow-suc 1 n ∙ mul-one (1 ^ n) ∙ one_pow n

zero_pow : (n : ℕ) → 0 < n → 0 ^ n ≡ 0
zero_pow zero h = absurd (omega arith)
zero_pow (suc n) h = pow-suc 0 n ∙ mul-zero (0 ^ n)

-- from 2 on the power of 127 is past the range
large_power : (a n : ℕ) → 2 ≤ a → 127 ≤ n → 2 ^ 127 ≤ a ^ n
large_power a n h l =
    let exponents : 2 ^ 127 ≤ 2 ^ n = pow-le-pow_right (omega arith) l in
    let bases : 2 ^ n ≤ a ^ n = pow-le-pow_left h n in
    omega arith

pub formed_large_power : (b : ℤ) (n : ℕ) → 2 ≤ unsigned_abs b → 127 ≤ n → formed (int_pow b n) ≡ Err Overflow
formed_large_power b n h l =
    let large : 2 ^ 127 ≤ unsigned_abs b ^ n = large_power (unsigned_abs b) n h l in
    let above : 2 ^ 127 ≤ unsigned_abs (int_pow b n) = rw unsigned_abs_pow large in
    grind arith

-- each power of -1, 0 or 1 is the first or the second
pub formed_even_power : (b : ℤ) (n : ℕ) → unsigned_abs b ≤ 1 → 127 ≤ n → n % 2 ≡ 0 → formed (int_pow b n) ≡ Ok (b *ℤ b)
formed_even_power (pos zero) n h l e = ap (λ a. formed (pos a)) (zero_pow n (omega arith))
formed_even_power (pos (suc zero)) n h l e = ap (λ a. formed (pos a)) (one_pow n)
formed_even_power (pos (suc (suc a))) n h l e = absurd (omega arith)
formed_even_power (negsuc zero) n h l e =
    ap (λ r. formed (cond (r == 0) (pos (1 ^ n)) (neg_ℤ (pos (1 ^ n))))) e ∙ ap (λ a. formed (pos a)) (one_pow n)
formed_even_power (negsuc (suc a)) n h l e = absurd (omega arith)

pub formed_odd_power : (b : ℤ) (n : ℕ) → unsigned_abs b ≤ 1 → 127 ≤ n → n % 2 ≡ 1 → formed (int_pow b n) ≡ Ok b
formed_odd_power (pos zero) n h l e = ap (λ a. formed (pos a)) (zero_pow n (omega arith))
formed_odd_power (pos (suc zero)) n h l e = ap (λ a. formed (pos a)) (one_pow n)
formed_odd_power (pos (suc (suc a))) n h l e = absurd (omega arith)
formed_odd_power (negsuc zero) n h l e =
    ap (λ r. formed (cond (r == 0) (pos (1 ^ n)) (neg_ℤ (pos (1 ^ n))))) e ∙ ap (λ a. formed (neg_ℤ (pos a))) (one_pow n)
formed_odd_power (negsuc (suc a)) n h l e = absurd (omega arith)

pub power_is_reduced : (p : ℤ) (q n : ℕ) → gcd (unsigned_abs p) q ≡ 1 → gcd (unsigned_abs (int_pow p n)) (q ^ n) ≡ 1
power_is_reduced p q n e = ap (λ a. gcd a (q ^ n)) (unsigned_abs_pow p n) ∙ coprime_powers (unsigned_abs p) q n n e

-- ---- the reciprocal

pub unsigned_abs_with_sign : (z : ℤ) (n : ℕ) → unsigned_abs (with_sign_of z n) ≡ n
unsigned_abs_with_sign (pos a) n = refl
unsigned_abs_with_sign (negsuc a) n = unsigned_abs_neg n

and_comm : (a b : Bool) → (a && b) ≡ (b && a)
and_comm true true = refl
and_comm true false = refl
and_comm false true = refl
and_comm false false = refl

pub reciprocal_in_range : (f : Fraction) → parts_in_range (reciprocal_of f) ≡ parts_in_range f
reciprocal_in_range f =
    ap (λ n. nat_lt n (2 ^ 127) && in_range (pos (unsigned_abs f.num))) (unsigned_abs_with_sign f.num f.den)
    ∙ and_comm (in_range (pos f.den)) (in_range f.num)

-- ---- the power, step by step

-- the exact power to a size
abbrev plain_power : Fraction → ℕ → Fraction
plain_power f k = record { num = int_pow f.num k; den = f.den ^ k }

plain_fits : (f : Fraction) (n : ℤ) → power_fits f n ≡ (in_range (int_pow f.num (unsigned_abs n)) && in_range (pos (f.den ^ unsigned_abs n)))
plain_fits f (pos k) = refl
plain_fits f (negsuc k) = reciprocal_in_range (plain_power f (suc k))

-- where 0 is not to a negative power
abbrev pub IsDefined : Fraction → ℤ → Type 0
IsDefined f n = (is_zero f && is_negative n) ≡ false

nonzero : (z : ℤ) → (z ≡ pos 0 → ⊥) → (unsigned_abs z == 0) ≡ false
nonzero (pos zero) h = absurd (h refl)
nonzero (pos (suc a)) h = grind arith
nonzero (negsuc a) h = grind arith

and_false : (b : Bool) → (b && false) ≡ false
and_false true = refl
and_false false = refl

pub defined_nonzero : (f : Fraction) (n : ℤ) → (f.num ≡ pos 0 → ⊥) → IsDefined f n
defined_nonzero f n h = ap (λ t. t && is_negative n) (nonzero f.num h)

pub defined_above : (f : Fraction) (n : ℤ) → is_negative n ≡ false → IsDefined f n
defined_above f n e = ap (λ t. is_zero f && t) e ∙ and_false (is_zero f)

pub nonzero_base : (f : Fraction) (n : ℤ) → IsDefined f n → is_negative n ≡ true → f.num ≡ pos 0 → ⊥
nonzero_base f n d h e = true≢false (sym h ∙ ap (λ z. unsigned_abs z == 0 && is_negative n) (sym e) ∙ d)

refused : (f : Fraction) (n : ℤ) → IsDefined f n → power_fits f n ≡ false → Err Overflow ≡ checked_power f n
refused f n d h =
    ap (λ t. cond t (Ok (power_of f n)) (Err Overflow)) (sym h)
    ∙ ap (λ t. cond t (Err ZeroDivisor) (cond (power_fits f n) (Ok (power_of f n)) (Err Overflow))) (sym d)

given : (f : Fraction) (n : ℤ) → IsDefined f n → power_fits f n ≡ true → Ok (power_of f n) ≡ checked_power f n
given f n d h =
    ap (λ t. cond t (Ok (power_of f n)) (Err Overflow)) (sym h)
    ∙ ap (λ t. cond t (Err ZeroDivisor) (cond (power_fits f n) (Ok (power_of f n)) (Err Overflow))) (sym d)

pub power_refused_num : (f : Fraction) (n : ℤ) (k : ℕ) (x : NumFault) → IsDefined f n → k ≡ unsigned_abs n → formed (int_pow f.num k) ≡ Err x → Err Overflow ≡ checked_power f n
power_refused_num f n k x d e h =
    let no = kept_err (in_range (int_pow f.num k)) (int_pow f.num k) x h in
    let none : in_range (int_pow f.num (unsigned_abs n)) ≡ false = ap (λ j. in_range (int_pow f.num j)) (sym e) ∙ no.0 in
    refused f n d (plain_fits f n ∙ ap (λ t. t && in_range (pos (f.den ^ unsigned_abs n))) none)

pub power_refused_den : (f : Fraction) (n : ℤ) (k : ℕ) (z : ℤ) (x : NumFault) → IsDefined f n → k ≡ unsigned_abs n → formed (int_pow f.num k) ≡ Ok z → formed (pos (f.den ^ k)) ≡ Err x → Err Overflow ≡ checked_power f n
power_refused_den f n k z x d e h l =
    let num = kept_ok (in_range (int_pow f.num k)) (int_pow f.num k) z h in
    let no = kept_err (in_range (pos (f.den ^ k))) (pos (f.den ^ k)) x l in
    let some : in_range (int_pow f.num (unsigned_abs n)) ≡ true = ap (λ j. in_range (int_pow f.num j)) (sym e) ∙ num.0 in
    let none : in_range (pos (f.den ^ unsigned_abs n)) ≡ false = ap (λ j. in_range (pos (f.den ^ j))) (sym e) ∙ no.0 in
    refused f n d (plain_fits f n ∙ ap (λ t. t && in_range (pos (f.den ^ unsigned_abs n))) some ∙ none)

-- the parts of the power that was formed
pub record IsPower (f : Fraction) (n z : ℤ) (d : ℕ) : Type 0 where
  pub value : record { num = z; den = d } ≡ plain_power f (unsigned_abs n)
  pub fits : power_fits f n ≡ true

pub power_formed : (f : Fraction) (n : ℤ) (k : ℕ) (z w : ℤ) → k ≡ unsigned_abs n → formed (int_pow f.num k) ≡ Ok z → formed (pos (f.den ^ k)) ≡ Ok w → IsPower f n z (unsigned_abs w)
power_formed f n k z w e h l =
    let num = kept_ok (in_range (int_pow f.num k)) (int_pow f.num k) z h in
    let den = kept_ok (in_range (pos (f.den ^ k))) (pos (f.den ^ k)) w l in
    let some : in_range (int_pow f.num (unsigned_abs n)) ≡ true = ap (λ j. in_range (int_pow f.num j)) (sym e) ∙ num.0 in
    let other : in_range (pos (f.den ^ unsigned_abs n)) ≡ true = ap (λ j. in_range (pos (f.den ^ j))) (sym e) ∙ den.0 in
    record {
      value = same_fraction _ _ _ _ num.1 (ap unsigned_abs den.1) ∙ ap (plain_power f) e;
      fits = plain_fits f n ∙ ap (λ t. t && in_range (pos (f.den ^ unsigned_abs n))) some ∙ other;
    }

pub power_given : (f : Fraction) (n z : ℤ) (d : ℕ) → IsPower f n z d → IsDefined f n → is_negative n ≡ false → Ok (record { num = z; den = d }) ≡ checked_power f n
power_given f (pos k) z d p e h = ap (λ x. Ok x) p.value ∙ given f (pos k) e p.fits
power_given f (negsuc k) z d p e h = absurd (true≢false h)

no_negative : (k : ℕ) → is_negative (pos k) ≡ true → ⊥
no_negative k h = grind arith

pub power_given_below : (f : Fraction) (n z : ℤ) (d : ℕ) → IsPower f n z d → IsDefined f n → is_negative n ≡ true → Ok (reciprocal_of (record { num = z; den = d })) ≡ checked_power f n
power_given_below f (pos k) z d p e h = absurd (no_negative k h)
power_given_below f (negsuc k) z d p e h = ap (λ x. Ok (reciprocal_of x)) p.value ∙ given f (negsuc k) e p.fits

-- what the number asks of its parts
pub power_parts_reduced : (f : Fraction) (n z : ℤ) (d : ℕ) → IsReduced f → IsPower f n z d → gcd (unsigned_abs z) d ≡ 1
power_parts_reduced f n z d h p = subst IsReduced (sym p.value) (power_is_reduced f.num f.den (unsigned_abs n) h)

pub power_den_positive : (f : Fraction) (n z : ℤ) (d : ℕ) → 0 < f.den → IsPower f n z d → 0 < d
power_den_positive f n z d h p = subst (λ (x : Fraction). 0 < x.den) (sym p.value) (one-le-pow (unsigned_abs n) f.den h)

size_positive : (z : ℤ) → (z ≡ pos 0 → ⊥) → 0 < unsigned_abs z
size_positive (pos zero) h = absurd (h refl)
size_positive (pos (suc a)) h = omega arith
size_positive (negsuc a) h = omega arith

-- the power of a number that is not 0 is not 0
pub power_num_nonzero : (f : Fraction) (n z : ℤ) (d : ℕ) → (f.num ≡ pos 0 → ⊥) → IsPower f n z d → z ≢ pos 0
power_num_nonzero f n z d h p e =
    let some : 0 < unsigned_abs f.num = size_positive f.num h in
    let size : 0 < unsigned_abs f.num ^ unsigned_abs n = one-le-pow (unsigned_abs n) (unsigned_abs f.num) some in
    let same : z ≡ int_pow f.num (unsigned_abs n) = ap (λ (x : Fraction). x.num) p.value in
    let none : unsigned_abs f.num ^ unsigned_abs n ≡ 0 = sym (unsigned_abs_pow f.num (unsigned_abs n)) ∙ ap unsigned_abs (sym same ∙ e) in
    omega arith

-- ---- one factor more

next_even : (n : ℕ) → (suc n % 2 == 0) ≡ not (n % 2 == 0)
next_even n = grind arith

signed_step : (b : Bool) (x a : ℕ) → cond (not b) (pos (x * suc a)) (neg_ℤ (pos (x * suc a))) ≡ cond b (pos x) (neg_ℤ (pos x)) *ℤ negsuc a
signed_step true x a = refl
signed_step false x a = sym (neg_neg x (suc a))

pub int_pow_next : (p : ℤ) (n : ℕ) → int_pow p (suc n) ≡ int_pow p n *ℤ p
int_pow_next (pos a) n = ap pos (pow-suc a n)
int_pow_next (negsuc a) n =
    ap (λ b. cond b (pos (suc a ^ suc n)) (neg_ℤ (pos (suc a ^ suc n)))) (next_even n)
    ∙ ap (λ x. cond (not (n % 2 == 0)) (pos x) (neg_ℤ (pos x))) (pow-suc (suc a) n)
    ∙ signed_step (n % 2 == 0) (suc a ^ n) a

pub power_step : (f : Fraction) (n : ℕ) → IsReduced f → power_of f (pos (suc n)) ≡ product_of (power_of f (pos n)) f
power_step f n h =
    sym (reduced_is (int_pow f.num (suc n)) (f.den ^ suc n) (power_is_reduced f.num f.den (suc n) h))
    ∙ ap (λ z. reduced z (f.den ^ suc n)) (int_pow_next f.num n)
    ∙ ap (λ d. reduced (int_pow f.num n *ℤ f.num) d) (pow-suc f.den n)

-- ---- the faults

negative_is : (n : ℤ) → (is_negative n ≡ true) ↔ (n <ℤ pos 0)
negative_is (pos k) = (λ h. absurd (no_negative k h), λ l. absurd (omega (arith, ints)))
negative_is (negsuc k) = (λ h. omega (arith, ints), λ l. refl)

not_zero_below : (z n : ℤ) → (z ≡ pos 0 → ⊥) → IsTrue (unsigned_abs z == 0 && is_negative n) ↔ ((z ≡ pos 0) × (n <ℤ pos 0))
not_zero_below z n h =
    (λ t. absurd (true≢false (sym t ∙ ap (λ b. b && is_negative n) (nonzero z h))), λ p. absurd (h p.0))

zero_below : (z n : ℤ) → IsTrue (unsigned_abs z == 0 && is_negative n) ↔ ((z ≡ pos 0) × (n <ℤ pos 0))
zero_below (pos zero) n = (λ h. (refl, (negative_is n).0 h), λ p. (negative_is n).1 p.1)
zero_below (pos (suc a)) n = not_zero_below (pos (suc a)) n (λ e. absurd (omega (arith, ints)))
zero_below (negsuc a) n = not_zero_below (negsuc a) n (λ e. absurd (omega (arith, ints)))

pub power_zero_divisor : (f : Fraction) (n : ℤ) (r : Result Fraction NumFault) → r ≡ checked_power f n → (r ≡ Err ZeroDivisor) ↔ ((f.num ≡ pos 0) × (n <ℤ pos 0))
power_zero_divisor f n r e =
    let test = checked_zero_divisor (is_zero f && is_negative n) (power_fits f n) (power_of f n) r e in
    let means = zero_below f.num n in
    (λ h. means.0 (test.0 h), λ h. test.1 (means.1 h))

pub power_overflow : (f : Fraction) (n : ℤ) (r : Result Fraction NumFault) → r ≡ checked_power f n → (r ≡ Err Overflow) ↔ ((r ≢ Err ZeroDivisor) × IsTrue (power_overflows f n))
power_overflow f n r e = checked_overflow (is_zero f && is_negative n) (power_fits f n) (power_of f n) r e
