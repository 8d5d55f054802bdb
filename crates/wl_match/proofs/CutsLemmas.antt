-- Parts of runs.
use Rattle.std.proofs.Common.{◌≡◌, ◌<◌, ◌+◌, ◌-◌, ℕ, zero, suc, min, List, [], ◌∷◌, ◌++◌, length, get_or, map, take, drop, refl, ap, sym, ◌∙◌, arith}
use Rattle.std.proofs.lemmas.List.{drop-drop, take-map, drop-map, get_or-drop, get_or-map, get_or-take, get_or_default, length-drop, length-take, map-append, take_more}
use Rattle.wl_expr.specs.Tree.{Tree, symbol}
use Rattle.wl_match.specs.Means.{tree_among}
use Rattle.wl_match.specs.Runs.{element_at, elements_of, picked}

nil_left : {A : Type 0} (c f : ℕ) → take {A = A} c (drop f []) ≡ []
nil_left zero zero = refl
nil_left zero (suc f) = refl
nil_left (suc c) zero = refl
nil_left (suc c) (suc f) = refl

pub within : {A : Type 0} (xs : List A) (n from count f m : ℕ) → f ≡ min from n → m ≡ min count (n - f) → take m (drop f xs) ≡ take count (drop from (take n xs))
within [] n from count f m e g = nil_left m f ∙ sym (ap (λ z. take count (drop from z)) (nil_left n 0) ∙ nil_left count from)
within (x ∷ xs) zero from count f m e g =
    let a : m ≡ 0 = omega arith in
    ap (λ z. take z (drop f (x ∷ xs))) a ∙ sym (nil_left count from)
within (x ∷ xs) (suc n) zero count f m e g =
    let a : f ≡ 0 = omega arith in
    let b : m ≡ min count (suc n) = omega arith in
    (λ v. take (b v) (drop (a v) (x ∷ xs))) ∙ both count (suc n) (x ∷ xs)
  where
    both : {A : Type 0} (c n : ℕ) (ys : List A) → take (min c n) ys ≡ take c (take n ys)
    both zero n ys = let k : min 0 n ≡ 0 = omega arith in ap (λ z. take z ys) k
    both (suc c) zero ys = let k : min (suc c) 0 ≡ 0 = omega arith in ap (λ z. take z ys) k
    both (suc c) (suc n) [] = let k : min (suc c) (suc n) ≡ suc (min c n) = omega arith in ap (λ z. take z []) k
    both (suc c) (suc n) (y ∷ ys) = let k : min (suc c) (suc n) ≡ suc (min c n) = omega arith in ap (λ z. take z (y ∷ ys)) k ∙ ap (λ z. y ∷ z) (both c n ys)
within (x ∷ xs) (suc n) (suc from) count f m e g =
    let a : f ≡ suc (min from n) = omega arith in
    ap (λ z. take m (drop z (x ∷ xs))) a ∙ within xs n from count (min from n) m refl (omega arith)

pub slice_cut : (e : List Tree) (start n from count f at m : ℕ) → f ≡ min from n → at ≡ start + f → m ≡ min count (n - f) → take m (drop at e) ≡ take count (drop from (take n (drop start e)))
slice_cut e start n from count f at m h g k = ap (λ z. take m (drop z e)) g ∙ ap (take m) (sym (drop-drop f start e)) ∙ within (drop start e) n from count f m h k

pub picked_cut : (u : Tree) (is js : List ℕ) (from count : ℕ) → js ≡ take count (drop from is) → picked u js ≡ take count (drop from (picked u is))
picked_cut u is js from count e =
    ap (picked u) e ∙ sym (take-map (element_at u) count (drop from is)) ∙ ap (take count) (sym (drop-map (element_at u) from is))

pub one_cut : (x : Tree) (from count : ℕ) → from ≡ 0 → 0 < count → x ∷ [] ≡ take count (drop from (x ∷ []))
one_cut x zero zero e h = absurd (omega arith)
one_cut x zero (suc c) e h = ap (λ z. x ∷ z) (sym (nil_left c 0))
one_cut x (suc f) c e h = absurd (omega arith)

pub none_cut : (x : Tree) (from count : ℕ) → (from ≡ 0 → count ≡ 0) → [] ≡ take count (drop from (x ∷ []))
none_cut x zero count h = ap (λ z. take z (x ∷ [])) (sym (h refl))
none_cut x (suc f) count h = sym (nil_left count f)

-- ---- one place more

pub picked_push : (u : Tree) (all new : List ℕ) (x : ℕ) → new ≡ all ++ x ∷ [] → picked u new ≡ picked u all ++ element_at u x ∷ []
picked_push u all new x e = ap (picked u) e ∙ map-append (element_at u) all (x ∷ [])

-- the next of the chosen, by what it is picked from
pub picked_more : (u : Tree) (f : ℕ → Tree) (all new chosen : List ℕ) (k x d : ℕ) → k < length chosen → new ≡ all ++ x ∷ [] → element_at u x ≡ f (get_or chosen k d) → picked u all ≡ map f (take k chosen) → picked u new ≡ map f (take (k + 1) chosen)
picked_more u f all new chosen k x d l e g h =
    picked_push u all new x e
    ∙ (λ v. h v ++ g v ∷ [])
    ∙ sym (map-append f (take k chosen) (get_or chosen k d ∷ []))
    ∙ ap (map f) (sym (take_more chosen k d l))

pub element_of_picked : (u : Tree) (is : List ℕ) (i d : ℕ) → i < length is → element_at u (get_or is i d) ≡ tree_among (picked u is) i
element_of_picked u is i d h = sym (get_or-map (element_at u) is i d (symbol []) h)

pub element_of_part : (u : Tree) (m s i at : ℕ) → i < length (take m (drop s (elements_of u))) → at ≡ s + i → element_at u at ≡ tree_among (take m (drop s (elements_of u))) i
element_of_part u m s i at h e =
    let es = elements_of u in
    let k : i < m = omega (arith, length-take m (drop s es)) in
    ap (λ z. get_or es z u) e
    ∙ get_or_default es (s + i) u (symbol []) (omega (arith, length-take m (drop s es), length-drop s es))
    ∙ sym (get_or-drop s es i (symbol []))
    ∙ sym (get_or-take m (drop s es) i (symbol []) k)

pub part_more : (u : Tree) (m s at place : ℕ) (all new : List ℕ) → at < length (take m (drop s (elements_of u))) → place ≡ s + at → new ≡ all ++ place ∷ [] → picked u all ≡ take at (take m (drop s (elements_of u))) → picked u new ≡ take (at + 1) (take m (drop s (elements_of u)))
part_more u m s at place all new l p e h =
    let r = take m (drop s (elements_of u)) in
    picked_push u all new place e
    ∙ (λ v. h v ++ element_of_part u m s at place l p v ∷ [])
    ∙ sym (take_more r at (symbol []) l)
