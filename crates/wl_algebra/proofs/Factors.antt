-- Powers, and the powers of factors.
use Rattle.std.proofs.Common.{◌≡◌, ◌≢◌, ◌<◌, ℕ, zero, suc, ℤ, pos, Bool, true, false, ◌&&◌, nat_eq, List, [], ◌∷◌, ◌++◌, length, get_or, Some, None, refl, sym, ap, subst, arith}
use Rattle.std.specs.Ordering.{int_eq}
use Rattle.wl_exact.specs.Fraction.{Fraction}
use Rattle.wl_expr.specs.Stamped.{Stamped, plain}
use Rattle.wl_expr.specs.Tree.{Tree, IsWithinLimits, AreSmall, num, text, symbol, node, from_list}
use Rattle.wl_expr.specs.Words.{whole, int_of}
use Rattle.wl_algebra.specs.Answers.{trees}
use Rattle.wl_algebra.specs.Powers.{is_natural, power, powers, power_of_product}

pub whole_tree : (f : Fraction) → f.den ≡ 1 → num f ≡ whole f.num
whole_tree f e = ap num (λ i. record { num = f.num; den = e i })

by_den : (b : Bool) (k n : ℤ) → Some n ≡ (elim b [ true ↦ Some k | false ↦ None ]) → (int_eq k (pos 0) && b) ≡ false → n ≢ pos 0
by_den true k n e h z =
    let same : k ≡ pos 0 = cc in
    let no = subst (λ (j : ℤ). (int_eq j (pos 0) && true) ≡ false) same h in
    cc
by_den false k n e h z = cc

-- an integer that isn't 0
pub integer_nonzero : (t : Tree) (n : ℤ) → Some n ≡ int_of t → is_natural 0 t ≡ false → n ≢ pos 0
integer_nonzero (num f) n e h z = by_den (nat_eq f.den 1) f.num n e h z
integer_nonzero (text s) n e h z = cc
integer_nonzero (symbol s) n e h z = cc
integer_nonzero (node g us) n e h z = cc

pub trees_push : (ts : List Stamped) (t : Stamped) → trees (ts ++ t ∷ []) ≡ trees ts ++ plain t ∷ []
trees_push [] t = refl
trees_push (u ∷ ts) t = ap (λ us. plain u ∷ us) (trees_push ts t)

small_power : (n : Tree) (ts : List Stamped) (i : ℕ) (t : Stamped) → i < length ts → t ≡ get_or ts i t → AreSmall (from_list (powers n (trees ts))) → IsWithinLimits (power (plain t) n)
small_power n [] i t l p s = absurd (omega arith)
small_power n (u ∷ ts) zero t l p s =
    let f : IsWithinLimits (power (plain u) n) = record { light = omega arith; shallow = omega arith } in
    subst (λ (v : Stamped). IsWithinLimits (power (plain v) n)) (sym p) f
small_power n (u ∷ ts) (suc i) t l p s = small_power n ts i t (omega arith) p record { light = omega arith; shallow = omega arith }

-- a factor's power that doesn't fit
pub large_power : (n : Tree) (ts : List Stamped) (i : ℕ) (t : Stamped) → i < length ts → t ≡ get_or ts i t → ¬ IsWithinLimits (power (plain t) n) → ¬ IsWithinLimits (power_of_product (trees ts) n)
large_power n ts i t l p h f = h (small_power n ts i t l p (record { light = omega arith; shallow = omega arith }))
