-- The expressions of a run, as they are lent.
use Rattle.std.proofs.Common.{◌≡◌, ℕ, zero, suc, ◌<◌, ◌≤◌, List, [], ◌∷◌, length, get_or, None, refl, sym, ap, ap₂, ◌∙◌, arith}
use Rattle.wl_expr.specs.Stamped as stamped
use Rattle.wl_expr.specs.Stamped.{Stamped, plain, plains, from_list}
use Rattle.wl_expr.specs.Tree as tree
use Rattle.wl_expr.specs.Tree.{Tree, node, to_list}
use Rattle.wl_match.specs.Runs.{element_at, picked, child}
use Rattle.wl_state.specs.Played.{trees}

got_plain : (xs : List Stamped) (i : ℕ) (d : Stamped) (e : Tree) → i < length xs → plain (get_or xs i d) ≡ get_or (to_list (plains (from_list xs))) i e
got_plain [] i d e h = absurd (omega (arith, h))
got_plain (x ∷ xs) zero d e h = refl
got_plain (x ∷ xs) (suc i) d e h = got_plain xs i d e (omega (arith, h))

got_none : (xs : List Stamped) (i : ℕ) (e : Tree) → length xs ≤ i → get_or (to_list (plains (from_list xs))) i e ≡ e
got_none [] i e h = refl
got_none (x ∷ xs) zero e h = absurd (omega (arith, h))
got_none (x ∷ xs) (suc i) e h = got_none xs i e (omega (arith, h))

pub element_is : (h t : Tree) (xs : List Stamped) (i : ℕ) (a d : Stamped) → node h (plains (from_list xs)) ≡ t → i < length xs → a ≡ get_or xs i d → plain a ≡ element_at t i
element_is h t xs i a d e l g = ap plain g ∙ got_plain xs i d (node h (plains (from_list xs))) l ∙ ap (λ z. element_at z i) e

pub element_none : (h t : Tree) (xs : List Stamped) (i : ℕ) → node h (plains (from_list xs)) ≡ t → length xs ≤ i → t ≡ element_at t i
element_none h t xs i e l = sym e ∙ sym (got_none xs i (node h (plains (from_list xs))) l) ∙ ap (λ z. element_at z i) e

pub plains_are : (xs : List Stamped) → plains (from_list xs) ≡ tree.from_list (trees xs)
plains_are [] = refl
plains_are (x ∷ xs) = ap (λ zs. tree.more (plain x) zs) (plains_are xs)

pub wrapped_is : (w h : Stamped) (xs ys : List Stamped) (t : Tree) (is : List ℕ) → w ≡ stamped.node None h (from_list xs) → xs ≡ ys → plain h ≡ child 0 t → trees ys ≡ picked t is → plain w ≡ node (child 0 t) (tree.from_list (picked t is))
wrapped_is w h xs ys t is e p q r = ap plain e ∙ ap₂ node q (plains_are xs ∙ ap tree.from_list (ap trees p ∙ r))
