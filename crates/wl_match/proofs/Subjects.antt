-- The parts of a tree, as trees.
use Rattle.std.proofs.Common.{◌≡◌, ◌≢◌, ◌++◌, ◌<◌, ◌≤◌, ◌-◌, ℕ, zero, suc, List, [], ◌∷◌, length, get_or, map, take, drop, refl, ap, sym, ◌∙◌, arith}
use Rattle.wl_expr.specs.Tree.{Tree, node, to_list, to_list_from_list}
use Rattle.wl_expr.specs.Stamped.{Stamped, plain, plains, from_list as from}
use Rattle.wl_expr.proofs.Parts.{plains_from_list}
use Rattle.std.proofs.lemmas.List.{take-map, drop-map}
use Rattle.wl_match.specs.Runs.{child, elements_of, follow}

pub trees_of : (xs : List Stamped) → to_list (plains (from xs)) ≡ map plain xs
trees_of xs = ap to_list (plains_from_list xs) ∙ to_list_from_list (map plain xs)

get_plain : (xs : List Stamped) (i : ℕ) (d : Stamped) (e : Tree) → i < length xs → plain (get_or xs i d) ≡ get_or (to_list (plains (from xs))) i e
get_plain [] i d e h = absurd (omega arith)
get_plain (x ∷ xs) zero d e h = refl
get_plain (x ∷ xs) (suc i) d e h = get_plain xs i d e (omega arith)

get_none : (xs : List Stamped) (i : ℕ) (e : Tree) → length xs ≤ i → get_or (to_list (plains (from xs))) i e ≡ e
get_none [] i e h = refl
get_none (x ∷ xs) zero e h = absurd (omega arith)
get_none (x ∷ xs) (suc i) e h = get_none xs i e (omega arith)

pub child_is : (h t : Tree) (xs : List Stamped) (i : ℕ) (a d : Stamped) → node h (plains (from xs)) ≡ t → i ≢ 0 → i - 1 < length xs → a ≡ get_or xs (i - 1) d → plain a ≡ child i t
child_is h t xs zero a d e z l g = absurd (z refl)
child_is h t xs (suc i) a d e z l g =
    let m : i < length xs = omega arith in
    let j : suc i - 1 ≡ i = omega arith in
    let k : a ≡ get_or xs i d = g ∙ ap (λ n. get_or xs n d) j in
    ap plain k ∙ get_plain xs i d (node h (plains (from xs))) m ∙ ap (child (suc i)) e

pub child_none : (h t : Tree) (xs : List Stamped) (i : ℕ) → node h (plains (from xs)) ≡ t → i ≢ 0 → length xs ≤ i - 1 → t ≡ child i t
child_none h t xs zero e z l = absurd (z refl)
child_none h t xs (suc i) e z l =
    let m : length xs ≤ i = omega arith in
    sym e ∙ sym (get_none xs i (node h (plains (from xs))) m) ∙ ap (child (suc i)) e

pub parts_are : (h t : Tree) (xs : List Stamped) → node h (plains (from xs)) ≡ t → map plain xs ≡ elements_of t
parts_are h t xs e = sym (trees_of xs) ∙ ap elements_of e

pub slice_is : (ys xs : List Stamped) (n f : ℕ) (u v : Tree) → ys ≡ take n (drop f xs) → map plain xs ≡ elements_of u → u ≡ v → map plain ys ≡ take n (drop f (elements_of v))
slice_is ys xs n f u v e g h =
    ap (map plain) e ∙ sym (take-map plain n (drop f xs)) ∙ ap (take n) (sym (drop-map plain f xs) ∙ ap (drop f) (g ∙ ap elements_of h))

pub follow_append : (p : List ℕ) (i : ℕ) (t : Tree) → follow (p ++ i ∷ []) t ≡ child i (follow p t)
follow_append [] i t = refl
follow_append (j ∷ p) i t = follow_append p i (child j t)
