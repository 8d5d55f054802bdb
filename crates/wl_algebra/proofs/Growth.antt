-- Factorials grow.
use Rattle.std.proofs.Common.{◌≡◌, ◌≤◌, ◌<◌, ◌+◌, ◌*◌, ◌^◌, ℕ, zero, suc, Bool, true, false, inl, inr, Some, None, refl, sym, ap, ◌∙◌, arith, nat_lt, add-one}
use Rattle.std.proofs.lemmas.Bool.Decides.{leb_tells, nat_tests}
use Rattle.std.specs.Prelude.{if◌then◌else◌}
use Rattle.std.proofs.lemmas.Nat.{mul-le}
use Rattle.wl_algebra.specs.Factorials.{factorial}
use Rattle.wl_algebra.specs.Ranges.{in_range_only}

pub factorial_next : (k : ℕ) → factorial (k + 1) ≡ factorial k * (k + 1)
factorial_next k = rw add-one (omega arith)

factorial_grows : (n m : ℕ) → m ≤ n → factorial m ≤ factorial n
factorial_grows zero zero h = omega arith
factorial_grows zero (suc m) h = absurd (omega arith)
factorial_grows (suc n) m h =
    elim (leb_tells m n) [
      | inl l ↦ omega (arith, factorial_grows n m l.1, mul-le 1 (factorial n) (suc n) (factorial n) (omega arith) (omega arith))
      | inr l ↦ let e : m ≡ suc n = omega arith in omega (arith, ap factorial e)
    ]

fails : (t : Bool) (m : ℕ) → None ≡ (if t then Some m else None) → t ≡ false
fails true m p = cc
fails false m p = refl

fails_above : (b m n : ℕ) → m ≤ n → nat_lt m b ≡ false → nat_lt n b ≡ false
fails_above b m n h f = grind (arith, nat_tests)

small_below : (m n : ℕ) → m ≤ n → None ≡ in_range_only m → None ≡ in_range_only n
small_below m n h p = ap (λ (t : Bool). if t then Some n else None) (sym (fails_above (2 ^ 127) m n h (fails (nat_lt m (2 ^ 127)) m p)))

pub factorial_past : (n k : ℕ) → k < n → None ≡ in_range_only (factorial k * (k + 1)) → None ≡ in_range_only (factorial n)
factorial_past n k h p = small_below (factorial (k + 1)) (factorial n) (factorial_grows n (k + 1) (omega arith)) (p ∙ ap in_range_only (sym (factorial_next k)))
