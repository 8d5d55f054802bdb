-- Factors that are collected by their bases.
use Rattle.std.proofs.Common.{◌≡◌, ◌≢◌, ◌<◌, ℕ, zero, suc, Bool, true, false, cond, List, [], ◌∷◌, ◌++◌, length, get_or, Option, Some, None, refl, sym, ◌∙◌, ap, subst, arith}
use Rattle.std.specs.List.{slice_get}
use Rattle.std.proofs.lemmas.List.Elements.{All-nil, All-cons, All-head, All-tail}
use Rattle.std.specs.Map.{lookup}
use Rattle.std.specs.Prelude.{if◌then◌else◌}
use Rattle.indexmap.specs.IndexMap.{insert_entry}
use Rattle.wl_exact.specs.Arithmetic.{checked_product}
use Rattle.wl_exact.specs.Fraction.{Fraction}
use Rattle.wl_expr.specs.Passed.{IsFrom}
use Rattle.wl_expr.specs.Same.{same_decides}
use Rattle.wl_expr.specs.Stamped.{Stamped, plain}
use Rattle.wl_expr.specs.Tree.{Tree, IsWithinLimits, AreSmall, num, text, symbol, node, from_list}
use Rattle.wl_algebra.specs.Alike.{alike}
use Rattle.wl_algebra.specs.Answers.{number_of, trees}
use Rattle.wl_algebra.specs.Products.{Group, group_left, group_of, groups_left, product_of_more, product_on, times_by, times_number, times_row, with_factor, with_group}
use Rattle.wl_algebra.specs.ProductsInside.{Entry, EntriesFrom, EntryIsFrom, Joins, PowersFrom, entry_group, entry_groups}
use Rattle.wl_algebra.specs.declared.products.Powers.{Powers}

itself : (k : Stamped) → alike k k ≡ true
itself k = (same_decides (plain k) (plain k)).1 refl

by_first : (b : Bool) (e : Entry) (es : List Entry) (k : Stamped) (v w : Powers) → alike k e.0 ≡ b → insert_entry alike (insert_entry alike es k v) k w ≡ insert_entry alike es k w
    → insert_entry alike (if b then (e.0, v) ∷ es else e ∷ insert_entry alike es k v) k w ≡ (if b then (e.0, w) ∷ es else e ∷ insert_entry alike es k w)
by_first true e es k v w t h = ap (λ (b : Bool). if b then (e.0, w) ∷ es else (e.0, v) ∷ insert_entry alike es k w) t
by_first false e es k v w t h = ap (λ (b : Bool). if b then (e.0, w) ∷ insert_entry alike es k v else e ∷ insert_entry alike (insert_entry alike es k v) k w) t ∙ ap (λ fs. e ∷ fs) h

pub put_twice : (es : List Entry) (k : Stamped) (v w : Powers) → insert_entry alike (insert_entry alike es k v) k w ≡ insert_entry alike es k w
put_twice [] k v w = ap (λ (b : Bool). if b then (k, w) ∷ [] else (k, v) ∷ (k, w) ∷ []) (itself k)
put_twice (e ∷ es) k v w = by_first (alike k e.0) e es k v w refl (put_twice es k v w)

joined_group : (k e : Stamped) (g w : Powers) (x n : Stamped) → Joins (Some g) x n w
    → record (entry_group (e, g)) { exponents = trees g.exponents.items ++ plain n ∷ [] } ≡ entry_group (e, w)
joined_group k e g w x n j = λ i. record { base = plain e; element = sym j.0 i; exponents = sym j.1 i }

at_entry : (b : Bool) (e : Entry) (es : List Entry) (k x n : Stamped) (w : Powers) → Joins (cond b (Some e.1) (lookup (alike k) es)) x n w
    → (Joins (lookup (alike k) es) x n w → with_group (record { base = plain k; element = plain x; exponents = plain n ∷ [] }) (entry_groups es) ≡ entry_groups (insert_entry alike es k w))
    → (elim b [
      | true ↦ record (entry_group e) { exponents = trees e.1.exponents.items ++ plain n ∷ [] } ∷ entry_groups es
      | false ↦ entry_group e ∷ with_group (record { base = plain k; element = plain x; exponents = plain n ∷ [] }) (entry_groups es)
    ]) ≡ entry_groups (if b then (e.0, w) ∷ es else e ∷ insert_entry alike es k w)
at_entry true e es k x n w j h = ap (λ g. g ∷ entry_groups es) (joined_group k e.0 e.1 w x n j)
at_entry false e es k x n w j h = ap (λ gs. entry_group e ∷ gs) (h j)

pub group_joins : (es : List Entry) (k x n : Stamped) (w : Powers) → Joins (lookup (alike k) es) x n w
    → with_group (record { base = plain k; element = plain x; exponents = plain n ∷ [] }) (entry_groups es) ≡ entry_groups (insert_entry alike es k w)
group_joins [] k x n w j = λ i. record { base = plain k; element = sym j.0 i; exponents = sym j.1 i } ∷ []
group_joins (e ∷ es) k x n w j = at_entry (alike k e.0) e es k x n w j (group_joins es k x n w)

-- ---- stamps

found_by : (ms : List Stamped) (b : Bool) (e : Entry) (o : Option Powers) (g : Powers) → cond b (Some e.1) o ≡ Some g → EntryIsFrom ms e → (o ≡ Some g → PowersFrom ms g) → PowersFrom ms g
found_by ms true e o g p h more = let same : e.1 ≡ g = cc in subst (PowersFrom ms) same h.1
found_by ms false e o g p h more = more p

pub found_from : (ms : List Stamped) (k : Stamped) (es : List Entry) (g : Powers) → EntriesFrom ms es → lookup (alike k) es ≡ Some g → PowersFrom ms g
found_from ms k [] g all p = cc
found_from ms k (e ∷ es) g all p =
    found_by ms (alike k e.0) e (lookup (alike k) es) g p (All-head (EntryIsFrom ms) e es all) (found_from ms k es g (All-tail (EntryIsFrom ms) e es all))

entry_put : (ms : List Stamped) (b : Bool) (w : Powers) (e : Entry) (es fs : List Entry) → PowersFrom ms w → EntryIsFrom ms e → EntriesFrom ms es → EntriesFrom ms fs → EntriesFrom ms (if b then (e.0, w) ∷ es else e ∷ fs)
entry_put ms true w e es fs v h all more = All-cons (EntryIsFrom ms) (e.0, w) es (h.0, v) all
entry_put ms false w e es fs v h all more = All-cons (EntryIsFrom ms) e fs h more

pub powers_put : (ms : List Stamped) (k : Stamped) (w : Powers) (es : List Entry) → EntriesFrom ms es → IsFrom ms k → PowersFrom ms w → EntriesFrom ms (insert_entry alike es k w)
powers_put ms k w [] all h v = All-cons (EntryIsFrom ms) (k, w) [] (h, v) (All-nil (EntryIsFrom ms))
powers_put ms k w (e ∷ es) all h v =
    entry_put ms (alike k e.0) w e es (insert_entry alike es k w) v (All-head (EntryIsFrom ms) e es all) (All-tail (EntryIsFrom ms) e es all) (powers_put ms k w es (All-tail (EntryIsFrom ms) e es all) h v)

pub powers_from : (ms : List Stamped) (o : Option Powers) (k : Stamped) (es : List Entry) (w : Powers) → EntriesFrom ms es → o ≡ lookup (alike k) es
    → (o ≡ None → PowersFrom ms w) → ((g : Powers) → o ≡ Some g → PowersFrom ms g → PowersFrom ms w) → PowersFrom ms w
powers_from ms None k es w all p none some = none refl
powers_from ms (Some g) k es w all p none some = some g refl (found_from ms k es g all (sym p))

-- ---- elements

pub number_passes : (gs : List Group) (t : Tree) (n : Fraction) → Some n ≡ number_of t → with_factor gs t ≡ gs
number_passes gs (num m) n e = refl
number_passes gs (text s) n e = cc
number_passes gs (symbol s) n e = cc
number_passes gs (node h ts) n e = cc

pub factor_joins : (gs : List Group) (t : Tree) → None ≡ number_of t → with_factor gs t ≡ with_group (group_of t) gs
factor_joins gs (num m) e = cc
factor_joins gs (text s) e = refl
factor_joins gs (symbol s) e = refl
factor_joins gs (node h ts) e = refl

pub overflow_stays : (ts : List Tree) → product_on None ts ≡ None
overflow_stays [] = refl
overflow_stays (t ∷ ts) = overflow_stays ts

pub number_multiplied : (m n : Fraction) (t : Tree) → Some n ≡ number_of t → times_number (Some m) t ≡ times_by (checked_product m n)
number_multiplied m n (num k) e = let same : n ≡ k = cc in ap (λ x. times_by (checked_product m x)) (sym same)
number_multiplied m n (text s) e = cc
number_multiplied m n (symbol s) e = cc
number_multiplied m n (node h ts) e = cc

pub others_passed : (p : Option Fraction) (t : Tree) → None ≡ number_of t → times_number p t ≡ p
others_passed None (num k) e = cc
others_passed None (text s) e = refl
others_passed None (symbol s) e = refl
others_passed None (node h ts) e = refl
others_passed (Some m) (num k) e = cc
others_passed (Some m) (text s) e = refl
others_passed (Some m) (symbol s) e = refl
others_passed (Some m) (node h ts) e = refl

-- ---- what is left

small_left : (es : List Entry) (i : ℕ) (e : Entry) → i < length es → e ≡ get_or es i e → AreSmall (from_list (groups_left (entry_groups es))) → IsWithinLimits (group_left (entry_group e))
small_left [] i e l p s = absurd (omega arith)
small_left (f ∷ es) zero e l p s =
    let w : IsWithinLimits (group_left (entry_group f)) = record { light = omega arith; shallow = omega arith } in
    subst (λ (g : Entry). IsWithinLimits (group_left (entry_group g))) (sym p) w
small_left (f ∷ es) (suc i) e l p s = small_left es i e (omega arith) p record { light = omega arith; shallow = omega arith }

pub large_left : (es : List Entry) (i : ℕ) (e : Entry) → i < length es → e ≡ get_or es i e → ¬ IsWithinLimits (group_left (entry_group e)) → ¬ AreSmall (from_list (groups_left (entry_groups es)))
large_left es i e l p n s = n (small_left es i e l p s)

pub group_at : (es : List Entry) (i : ℕ) (e : Entry) → Some e ≡ slice_get es i → (i < length es) × (e ≡ get_or es i e)
group_at [] i e p = cc
group_at (f ∷ es) zero e p = (omega arith, cc)
group_at (f ∷ es) (suc i) e p = let h = group_at es i e p in (omega arith, h.1)

pub many_multiplied : (xs : List Stamped) → length xs ≢ 0 → length xs ≢ 1 → times_row (trees xs) ≡ product_of_more (trees xs)
many_multiplied [] z o = absurd (z refl)
many_multiplied (x ∷ []) z o = absurd (o refl)
many_multiplied (x ∷ y ∷ xs) z o = refl
