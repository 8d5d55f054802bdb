-- Runs that are lent, expression by expression.
use Rattle.std.proofs.Common.{◌≡◌, ◌≢◌, ◌↔◌, ◌<◌, ◌≤◌, ◌+◌, ◌&&◌, ℕ, zero, suc, Bool, true, false, List, [], ◌∷◌, length, map, get_or, drop, Option, Some, None, refl, ap, sym, ◌∙◌, arith}
use Rattle.std.specs.Prelude.{slice_get}
use Rattle.std.proofs.Math.Bool.{and-true}
use Rattle.std.proofs.lemmas.List.{drop_all}
use Rattle.std.specs.Bool.{IsTrue, one_answer}
use Rattle.wl_expr.specs.Tree.{Tree, Trees, node, none, more, to_list, from_list, to_list_from_list}
use Rattle.wl_expr.specs.Same.{same, all_same, same_lists, same_decides}
use Rattle.wl_expr.specs.Stamped.{Stamped, plain, plains, from_list as from}
use Rattle.wl_match.specs.Trials.{all_have}
use Rattle.wl_match.specs.Runs.{both_same, is_headed}
use Rattle.wl_match.proofs.Subjects.{trees_of}

pub same_is : (a : Bool) (t u : Tree) → (IsTrue a ↔ (t ≡ u)) → a ≡ same t u
same_is a t u h = one_answer a (same t u) h (same_decides t u)

pub mapped_at : {X Y : Type 0} (f : X → Y) (xs : List X) (k : ℕ) (x : X) → x ≡ get_or xs k x → k < length xs → Some (f x) ≡ slice_get (map f xs) k
mapped_at f [] k x e h = absurd (omega arith)
mapped_at f (y ∷ xs) zero x e h = ap (λ z. Some (f z)) e
mapped_at f (y ∷ xs) (suc k) x e h = mapped_at f xs k x e (omega arith)

pub mapped_past : {X Y : Type 0} (f : X → Y) (xs : List X) (k : ℕ) → length xs ≤ k → None ≡ slice_get (map f xs) k
mapped_past f [] k h = refl
mapped_past f (y ∷ xs) zero h = absurd (omega arith)
mapped_past f (y ∷ xs) (suc k) h = mapped_past f xs k (omega arith)

same_step : (xs ys : List Tree) (k : ℕ) → k < length xs → k < length ys → same_lists (drop k xs) (drop k ys) ≡ (both_same (slice_get xs k) (slice_get ys k) && same_lists (drop (suc k) xs) (drop (suc k) ys))
same_step [] ys k h g = absurd (omega arith)
same_step (x ∷ xs) [] k h g = absurd (omega arith)
same_step (x ∷ xs) (y ∷ ys) zero h g = refl
same_step (x ∷ xs) (y ∷ ys) (suc k) h g = same_step xs ys k (omega arith) (omega arith)

pub same_goes : (xs ys : List Tree) (k : ℕ) (b : Bool) (o p : Option Tree) → k < length xs → k < length ys → b ≡ both_same o p → o ≡ slice_get xs k → p ≡ slice_get ys k → b ≡ true → same_lists (drop k xs) (drop k ys) ≡ same_lists xs ys → same_lists (drop (k + 1) xs) (drop (k + 1) ys) ≡ same_lists xs ys
same_goes xs ys k b o p h g e f q t i =
    let n : k + 1 ≡ suc k = omega arith in
    ap (λ z. same_lists (drop z xs) (drop z ys)) n ∙ (λ j. sym t j && same_lists (drop (suc k) xs) (drop (suc k) ys)) ∙ (λ j. (e ∙ (λ v. both_same (f v) (q v))) j && same_lists (drop (suc k) xs) (drop (suc k) ys)) ∙ sym (same_step xs ys k h g) ∙ i

pub same_stops : (xs ys : List Tree) (k : ℕ) (b : Bool) (o p : Option Tree) → k < length xs → k < length ys → b ≡ both_same o p → o ≡ slice_get xs k → p ≡ slice_get ys k → b ≡ false → same_lists (drop k xs) (drop k ys) ≡ same_lists xs ys → false ≡ same_lists xs ys
same_stops xs ys k b o p h g e f q t i =
    (λ j. sym t j && same_lists (drop (suc k) xs) (drop (suc k) ys)) ∙ (λ j. (e ∙ (λ v. both_same (f v) (q v))) j && same_lists (drop (suc k) xs) (drop (suc k) ys)) ∙ sym (same_step xs ys k h g) ∙ i

pub same_apart : (xs ys : List Tree) → length xs ≢ length ys → same_lists xs ys ≡ false
same_apart [] [] h = absurd (h refl)
same_apart [] (y ∷ ys) h = refl
same_apart (x ∷ xs) [] h = refl
same_apart (x ∷ xs) (y ∷ ys) h = ap (λ b. same x y && b) (same_apart xs ys (λ e. h (ap suc e))) ∙ and_false (same x y)
  where
    and_false : (b : Bool) → (b && false) ≡ false
    and_false true = refl
    and_false false = refl

pub same_ended : (xs ys : List Tree) (k : ℕ) → length xs ≤ k → length ys ≤ k → same_lists (drop k xs) (drop k ys) ≡ true
same_ended xs ys k h g = λ i. same_lists (drop_all k xs h i) (drop_all k ys g i)

have_step : (h : Tree) (xs : List Tree) (k : ℕ) → k < length xs → all_have (Some h) (drop k xs) ≡ (is_headed h (slice_get xs k) && all_have (Some h) (drop (suc k) xs))
have_step h [] k l = absurd (omega arith)
have_step h (x ∷ xs) zero l = refl
have_step h (x ∷ xs) (suc k) l = have_step h xs k (omega arith)

pub have_goes : (h : Tree) (xs : List Tree) (k : ℕ) (b : Bool) (o : Option Tree) → k < length xs → b ≡ is_headed h o → o ≡ slice_get xs k → b ≡ true → all_have (Some h) (drop k xs) ≡ all_have (Some h) xs → all_have (Some h) (drop (k + 1) xs) ≡ all_have (Some h) xs
have_goes h xs k b o l e f t i =
    let n : k + 1 ≡ suc k = omega arith in
    ap (λ z. all_have (Some h) (drop z xs)) n ∙ (λ j. (sym t ∙ e ∙ ap (is_headed h) f) j && all_have (Some h) (drop (suc k) xs)) ∙ sym (have_step h xs k l) ∙ i

pub have_stops : (h : Tree) (xs : List Tree) (k : ℕ) (b : Bool) (o : Option Tree) → k < length xs → b ≡ is_headed h o → o ≡ slice_get xs k → b ≡ false → all_have (Some h) (drop k xs) ≡ all_have (Some h) xs → false ≡ all_have (Some h) xs
have_stops h xs k b o l e f t i =
    (λ j. (sym t ∙ e ∙ ap (is_headed h) f) j && all_have (Some h) (drop (suc k) xs)) ∙ sym (have_step h xs k l) ∙ i

pub have_ended : (h : Tree) (xs : List Tree) (k : ℕ) → length xs ≤ k → all_have (Some h) (drop k xs) ≡ true
have_ended h xs k l = ap (all_have (Some h)) (drop_all k xs l)

pub any_have : (xs : List Tree) → true ≡ all_have None xs
any_have [] = refl
any_have (x ∷ xs) = any_have xs

pub all_same_lists : (ts us : Trees) → all_same ts us ≡ same_lists (to_list ts) (to_list us)
all_same_lists none none = refl
all_same_lists none (more u us) = refl
all_same_lists (more t ts) none = refl
all_same_lists (more t ts) (more u us) = ap (λ b. same t u && b) (all_same_lists ts us)

pub node_same : (h g : Tree) (xs : List Stamped) (ys : List Tree) (t : Tree) → node g (plains (from xs)) ≡ t → (same g h && same_lists (map plain xs) ys) ≡ same t (node h (from_list ys))
node_same h g xs ys t e =
    (λ i. same g h && same_lists (sym (trees_of xs) i) (sym (to_list_from_list ys) i))
    ∙ ap (λ b. same g h && b) (sym (all_same_lists (plains (from xs)) (from_list ys)))
    ∙ ap (λ z. same z (node h (from_list ys))) e

pub same_turned : (t u : Tree) → same t u ≡ same u t
same_turned t u = one_answer (same t u) (same u t) (same_decides t u) (let d = same_decides u t in (λ x. sym (d.0 x), λ e. d.1 (sym e)))

pub lists_turned : (xs ys : List Tree) → same_lists xs ys ≡ same_lists ys xs
lists_turned [] [] = refl
lists_turned [] (y ∷ ys) = refl
lists_turned (x ∷ xs) [] = refl
lists_turned (x ∷ xs) (y ∷ ys) = λ i. same_turned x y i && lists_turned xs ys i

pub wrapped_same : (h g : Tree) (xs ys : List Tree) → (same h g && same_lists xs ys) ≡ same_lists (node h (from_list xs) ∷ []) (node g (from_list ys) ∷ [])
wrapped_same h g xs ys =
    (λ i. same h g && same_lists (sym (to_list_from_list xs) i) (sym (to_list_from_list ys) i))
    ∙ ap (λ b. same h g && b) (sym (all_same_lists (from_list xs) (from_list ys)))
    ∙ sym (and-true (same h g && all_same (from_list xs) (from_list ys)))

pub one_same : (xs : List Tree) (t u : Tree) (b : Bool) → length xs ≡ 1 → Some t ≡ slice_get xs 0 → b ≡ same t u → b ≡ same_lists xs (u ∷ [])
one_same [] t u b l e f = absurd (omega arith)
one_same (x ∷ []) t u b l e f = f ∙ (let k : t ≡ x = cc in ap (λ z. same z u) k) ∙ sym (and-true (same x u))
one_same (x ∷ y ∷ xs) t u b l e f = absurd (omega arith)

pub none_same : (xs : List Tree) (u : Tree) (b : Bool) → length xs ≡ 1 → None ≡ slice_get xs 0 → b ≡ same_lists xs (u ∷ [])
none_same [] u b l e = absurd (omega arith)
none_same (x ∷ xs) u b l e = cc
