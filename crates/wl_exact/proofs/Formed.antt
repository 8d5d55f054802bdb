-- What an answer says of the number that was formed, and which fault it is.
use Rattle.std.proofs.Common.{◌≢◌, not, arith, ◌≡◌, Bool, true, false, refl, sym}
use Rattle.std.proofs.Math.Bool.{true≢false}
use Rattle.std.specs.Prelude.{Result, Ok, Err, cond, IsTrue, ◌↔◌}
use Rattle.wl_exact.specs.declared.num.NumFault.{NumFault}
use Rattle.wl_exact.specs.declared.num.NumFault.TheVariants.{Overflow, ZeroDivisor}

-- the value where the flag is set
abbrev pub kept : {A : Type 0} → Bool → A → Result A NumFault
kept b z = cond b (Ok z) (Err Overflow)

pub kept_ok : {A : Type 0} (b : Bool) (z v : A) → kept b z ≡ Ok v → (b ≡ true) × (v ≡ z)
kept_ok true z v e = (refl, sym (grind arith))
kept_ok false z v e = absurd (grind arith)

pub kept_err : {A : Type 0} (b : Bool) (z : A) (f : NumFault) → kept b z ≡ Err f → (b ≡ false) × (f ≡ Overflow)
kept_err true z f e = absurd (grind arith)
kept_err false z f e = (refl, sym (grind arith))

-- the fault comes exactly where the flag is not set
pub kept_overflow : {A : Type 0} (b : Bool) (z : A) (r : Result A NumFault) → r ≡ kept b z → (r ≡ Err Overflow) ↔ IsTrue (not b)
kept_overflow true z r e = (λ f. absurd (grind arith), λ t. absurd (true≢false (sym t)))
kept_overflow false z r e = (λ f. refl, λ t. e)

-- a result where a first fault comes exactly where its flag is set
abbrev pub checked : {A : Type 0} → Bool → Bool → A → Result A NumFault
checked d b z = cond d (Err ZeroDivisor) (kept b z)

pub checked_zero_divisor : {A : Type 0} (d b : Bool) (z : A) (r : Result A NumFault) → r ≡ checked d b z → (r ≡ Err ZeroDivisor) ↔ IsTrue d
checked_zero_divisor true b z r e = (λ f. refl, λ t. e)
checked_zero_divisor false true z r e = (λ f. absurd (grind arith), λ t. absurd (true≢false (sym t)))
checked_zero_divisor false false z r e = (λ f. absurd (grind arith), λ t. absurd (true≢false (sym t)))

pub checked_overflow : {A : Type 0} (d b : Bool) (z : A) (r : Result A NumFault) → r ≡ checked d b z → (r ≡ Err Overflow) ↔ ((r ≢ Err ZeroDivisor) × IsTrue (not b))
checked_overflow true b z r e = (λ f. absurd (grind arith), λ t. absurd (t.0 e))
checked_overflow false true z r e = (λ f. absurd (grind arith), λ t. absurd (true≢false (sym t.1)))
checked_overflow false false z r e = (λ f. (λ g. absurd (grind arith), refl), λ t. e)
