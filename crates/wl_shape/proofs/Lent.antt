-- Elements of a node by their places.
use Rattle.std.proofs.Common.{◌≡◌, ℕ, zero, suc, ◌<◌, ◌≤◌, ◌+◌, List, [], ◌∷◌, ◌++◌, length, get_or, drop, map, append_assoc, refl, sym, ap, ◌∙◌, subst, arith}
use Rattle.std.proofs.lemmas.List.{append-nil, drop_all, map-append}
use Rattle.wl_expr.proofs.Parts.{to_list_plains}
use Rattle.wl_expr.specs.Stamped.{Stamped, plain, plains, from_list}
use Rattle.wl_expr.specs.Tree.{Tree, node}
use Rattle.wl_match.specs.Runs.{element_at, picked}
use Rattle.wl_shape.specs.Answers.{trees}
use Rattle.wl_shape.proofs.Splits.{next_of}

there : (es : List Stamped) (i : ℕ) (e : Stamped) (d : Tree) → i < length es → e ≡ get_or es i e → plain e ≡ get_or (trees es) i d
there [] i e d l p = absurd (omega (arith, l))
there (f ∷ es) zero e d l p = ap plain p
there (f ∷ es) (suc i) e d l p = there es i e d (omega (arith, l)) p

past : (es : List Stamped) (i : ℕ) (d : Tree) → length es ≤ i → d ≡ get_or (trees es) i d
past [] i d l = refl
past (e ∷ es) zero d l = absurd (omega (arith, l))
past (e ∷ es) (suc i) d l = past es i d (omega (arith, l))

pub element_there : (h t : Tree) (es : List Stamped) (i : ℕ) (e : Stamped) → node h (plains (from_list es)) ≡ t → i < length es → e ≡ get_or es i e → plain e ≡ element_at t i
element_there h t es i e q l p = there es i e (node h (plains (from_list es))) l p ∙ ap (λ us. get_or us i (node h (plains (from_list es)))) (sym (to_list_plains es)) ∙ ap (λ u. element_at u i) q

pub element_past : (h t : Tree) (es : List Stamped) (i : ℕ) → node h (plains (from_list es)) ≡ t → length es ≤ i → t ≡ element_at t i
element_past h t es i q l =
    sym q ∙ past es i (node h (plains (from_list es))) l ∙ ap (λ us. get_or us i (node h (plains (from_list es)))) (sym (to_list_plains es)) ∙ ap (λ u. element_at u i) q
