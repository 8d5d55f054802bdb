-- What is left of a sum or a product, and when it doesn't fit.
use Rattle.std.proofs.Common.{◌≡◌, ◌≢◌, ◌<◌, ℕ, zero, suc, Bool, true, false, List, [], ◌∷◌, ◌++◌, length, get_or, Some, Result, Err, IsErrAnd, refl, sym, ◌∙◌, ap, subst, arith}
use Rattle.std.proofs.lemmas.Result.{err_from_is_err_and}
use Rattle.std.specs.List.{slice_get}
use Rattle.std.specs.Prelude.{codes}
use Rattle.wl_expr.proofs.Parts.{to_list_plains}
use Rattle.wl_exact.specs.Arithmetic.{is_zero}
use Rattle.wl_exact.specs.Fraction.{Fraction}
use Rattle.wl_expr.specs.Applied.{gives}
use Rattle.wl_expr.specs.Same.{same_number}
use Rattle.wl_expr.specs.Stamped.{Stamped, plains, from_list as list_from}
use Rattle.wl_expr.specs.Tree.{Tree, IsWithinLimits, AreSmall, num, node, from_list, to_list}
use Rattle.wl_expr.specs.Words.{Name, form, is_the}
use Rattle.wl_expr.specs.declared.applied.Applied as code
use Rattle.wl_expr.specs.declared.fault.ExprFault.{ExprFault}
use Rattle.wl_expr.specs.declared.fault.ExprFault.TheVariants.{Large}
use Rattle.wl_algebra.specs.Answers.{IsAnswer, trees}
use Rattle.wl_algebra.specs.Joining.{alone_or, joined}
use Rattle.wl_algebra.specs.Sums.{plus_row, sum_of_more, term_left, terms_left, times_of}
use Rattle.wl_algebra.specs.SumsInside.{Entry, entry_term, entry_terms}

small_alone : (h : Name) (t : Tree) (ts : List Tree) → IsWithinLimits (alone_or h (t ∷ ts)) → AreSmall (from_list (t ∷ ts))
small_alone h t [] f = record { light = omega arith; shallow = omega arith }
small_alone h t (u ∷ us) f = record { light = omega arith; shallow = omega arith }

small_by : (b : Bool) (h : Name) (n t : Tree) (ts : List Tree) → IsWithinLimits (elim b [ true ↦ alone_or h (t ∷ ts) | false ↦ form h (n ∷ t ∷ ts) ]) → AreSmall (from_list (t ∷ ts))
small_by true h n t ts f = small_alone h t ts f
small_by false h n t ts f = record { light = omega arith; shallow = omega arith }

pub small_joined : (h : Name) (n neutral : Fraction) (ts : List Tree) → IsWithinLimits (joined h n neutral ts) → AreSmall (from_list ts)
small_joined h n neutral [] f = record { light = omega arith; shallow = omega arith }
small_joined h n neutral (t ∷ ts) f = small_by (same_number n neutral) h _ t ts f

-- a fault on the way to what is left
pub left_answers : (h : Name) (n neutral : Fraction) (ts : List Tree) (d : ExprFault) (r : Result code.Applied ExprFault) → (d ≡ Large → ¬ AreSmall (from_list ts)) → IsErrAnd r (λ y. y ≡ d) → IsAnswer (gives (joined h n neutral ts)) r
left_answers h n neutral ts d r large q =
    let p = err_from_is_err_and r q in
    let e : r ≡ Err d = p.1 ∙ ap Err p.2 in
    subst (IsAnswer (gives (joined h n neutral ts))) (sym e) (record { is = tt; large = λ l f. large (cc) (small_joined h n neutral ts f) })

-- ---- the terms of a sum

tail_small : (b : Bool) (t : Tree) (ts : List Tree) → AreSmall (from_list (elim b [ true ↦ ts | false ↦ t ∷ ts ])) → AreSmall (from_list ts)
tail_small true t ts s = s
tail_small false t ts s = record { light = omega arith; shallow = omega arith }

head_small : (b : Bool) (t : Tree) (ts : List Tree) → b ≡ false → AreSmall (from_list (elim b [ true ↦ ts | false ↦ t ∷ ts ])) → IsWithinLimits t
head_small true t ts e s = cc
head_small false t ts e s = record { light = omega arith; shallow = omega arith }

small_term : (es : List Entry) (i : ℕ) (e : Entry) → i < length es → e ≡ get_or es i e → is_zero e.1 ≡ false → AreSmall (from_list (terms_left (entry_terms es))) → IsWithinLimits (term_left (entry_term e))
small_term [] i e l p z s = absurd (omega arith)
small_term (f ∷ es) zero e l p z s =
    let zf : is_zero f.1 ≡ false = sym (ap (λ (g : Entry). is_zero g.1) p) ∙ z in
    subst (λ (g : Entry). IsWithinLimits (term_left (entry_term g))) (sym p) (head_small (is_zero f.1) (term_left (entry_term f)) (terms_left (entry_terms es)) zf s)
small_term (f ∷ es) (suc i) e l p z s = small_term es i e (omega arith) p z (tail_small (is_zero f.1) (term_left (entry_term f)) (terms_left (entry_terms es)) s)

pub large_term : (es : List Entry) (i : ℕ) (e : Entry) → i < length es → e ≡ get_or es i e → is_zero e.1 ≡ false → ¬ IsWithinLimits (term_left (entry_term e)) → ¬ AreSmall (from_list (terms_left (entry_terms es)))
large_term es i e l p z n s = n (small_term es i e l p z s)

pub many_summed : (xs : List Stamped) → length xs ≢ 0 → length xs ≢ 1 → plus_row (trees xs) ≡ sum_of_more (trees xs)
many_summed [] z o = absurd (z refl)
many_summed (x ∷ []) z o = absurd (o refl)
many_summed (x ∷ y ∷ xs) z o = refl

by_zero : (b : Bool) (t : Tree) (ts : List Tree) → (elim b [ true ↦ ts | false ↦ t ∷ ts ]) ≡ (elim b [ true ↦ [] | false ↦ t ∷ [] ]) ++ ts
by_zero true t ts = refl
by_zero false t ts = refl

pub first_left : (e : Entry) (es : List Entry) → terms_left (entry_terms (e ∷ es)) ≡ terms_left (entry_term e ∷ []) ++ terms_left (entry_terms es)
first_left e es = by_zero (is_zero e.1) (term_left (entry_term e)) (terms_left (entry_terms es))

pub times_joined : (c : Fraction) (h : Tree) (xs : List Stamped) (t : Tree) → node h (plains (list_from xs)) ≡ t → true ≡ is_the (codes "Times") h → times_of c t ≡ form (codes "Times") (num c ∷ trees xs)
times_joined c h xs t q e =
    ap (times_of c) (sym q)
    ∙ ap (λ b. elim b [ true ↦ form (codes "Times") (num c ∷ to_list (plains (list_from xs))) | false ↦ form (codes "Times") (num c ∷ node h (plains (list_from xs)) ∷ []) ]) (sym e)
    ∙ ap (λ (us : List Tree). form (codes "Times") (num c ∷ us)) (to_list_plains xs)

-- the entry at a place
pub entry_at : (es : List Entry) (i : ℕ) (e : Entry) → Some e ≡ slice_get es i → (i < length es) × (e ≡ get_or es i e)
entry_at [] i e p = cc
entry_at (f ∷ es) zero e p = (omega arith, cc)
entry_at (f ∷ es) (suc i) e p = let h = entry_at es i e p in (omega arith, h.1)
