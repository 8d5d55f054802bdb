-- Rows on numbers.
use Rattle.std.proofs.Common.{◌≡◌, ℤ, Bool, true, false, List, Some, Ok, Result, refl, sym, ◌∙◌, ap, subst}
use Rattle.std.specs.Prelude.{nat_eq, unsigned_abs}
use Rattle.wl_exact.specs.Arithmetic.{checked_ratio}
use Rattle.wl_exact.specs.Fraction.{Fraction}
use Rattle.wl_expr.specs.Applied.{unchanged, gives}
use Rattle.wl_expr.specs.Tree.{Tree, num}
use Rattle.wl_expr.specs.declared.applied.Applied as code
use Rattle.wl_expr.specs.declared.fault.ExprFault.{ExprFault}
use Rattle.wl_algebra.specs.Answers.{IsAnswer}
use Rattle.wl_algebra.specs.Numbers.{by_integers, exact, of_pair, rational, two_integers}

-- ---- `Rational` of two integers

divided : (b : Bool) (n m : ℤ) (f : Fraction) → nat_eq (unsigned_abs m) 0 ≡ b → checked_ratio n m ≡ Ok f → (elim b [ true ↦ unchanged | false ↦ rational n m ]) ≡ gives (num f)
divided true n m f t q = let e = rw t at q in cc
divided false n m f t q = ap exact q

pub rational_answers : (es : List Tree) (n m : ℤ) (f : Fraction) (r : Result code.Applied ExprFault) → Some (n, m) ≡ two_integers es → checked_ratio n m ≡ Ok f → IsAnswer (gives (num f)) r → IsAnswer (of_pair rational es) r
rational_answers es n m f r p q h =
    subst (λ a. IsAnswer a r) (sym (ap (by_integers rational) (sym p) ∙ divided (nat_eq (unsigned_abs m) 0) n m f refl q)) h
