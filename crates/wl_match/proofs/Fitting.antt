-- Runs that fit.
use Rattle.std.proofs.Common.{◌≡◌, ◌<◌, ◌≤◌, ◌+◌, ◌&&◌, ◌||◌, ℕ, zero, suc, Bool, true, false, not, List, [], ◌∷◌, ◌++◌, length, get_or, take, drop, if◌then◌else◌, ◌⊎◌, refl, ap, sym, subst, ◌∙◌, arith, inl, inr}
use Rattle.std.specs.Prelude.{nat_eq, nat_lt}
use Rattle.std.proofs.lemmas.Bool.{and_from, and_parts, lt-ltb, ltb-true, or_left, or_right}
use Rattle.std.proofs.lemmas.List.{length-drop, length-map, length-take}
use Rattle.wl_expr.specs.Tree.{Tree}
use Rattle.wl_expr.specs.Same.{same}
use Rattle.wl_match.specs.declared.flags.Flags.{Flags}
use Rattle.wl_match.specs.declared.part.Part.{Part}
use Rattle.wl_match.specs.declared.part.Part.TheVariants as part
use Rattle.wl_match.specs.declared.taken.Place.{Place}
use Rattle.wl_match.specs.declared.taken.Taken.{Taken}
use Rattle.wl_match.specs.declared.taken.Taken.TheVariants.{Nothing, Tree as At, Slice, Picked, Wrapped}
use Rattle.wl_match.specs.Pattern.{stretchable}
use Rattle.wl_match.specs.Parts.{pat}
use Rattle.wl_match.specs.Runs.{child, element_at, elements_of, keeps, kept_at, or_tree, part_at, picked, run_at, tree_at}
use Rattle.wl_match.specs.Means.{flags_at, head_at, site_at}
use Rattle.wl_match.specs.Trials.{stretches}
use Rattle.wl_match.specs.Kinds.{Kind, One, Purpose, any_kind, lends}
use Rattle.wl_match.specs.Kinds as kind
use Rattle.wl_match.specs.Fits.{are_places, fits, slice_kind}
use Rattle.wl_match.specs.Serves.{ElementServes, Narrows, bare_fits, element_fits, is_headed, is_single, left_fits, stands_alone}

-- ---- places

pub places_put : (u : Tree) (is : List ℕ) (i : ℕ) → are_places u is ≡ true → i < length (elements_of u) → are_places u (is ++ i ∷ []) ≡ true
places_put u [] i h l = and_from (nat_lt i (length (elements_of u))) true (lt-ltb i (length (elements_of u)) l) refl
places_put u (j ∷ is) i h l =
    let k = and_parts (nat_lt j (length (elements_of u))) (are_places u is) h in
    and_from (nat_lt j (length (elements_of u))) (are_places u (is ++ i ∷ [])) k.0 (places_put u is i k.1 l)

pub place_got : (u : Tree) (is : List ℕ) (k d : ℕ) → k < length is → are_places u is ≡ true → get_or is k d < length (elements_of u)
place_got u [] k d l h = absurd (omega arith)
place_got u (j ∷ is) zero d l h = ltb-true j (length (elements_of u)) (and_parts (nat_lt j (length (elements_of u))) (are_places u is) h).0
place_got u (j ∷ is) (suc k) d l h = place_got u is k d (omega arith) (and_parts (nat_lt j (length (elements_of u))) (are_places u is) h).1

places_taken : (u : Tree) (is : List ℕ) (c : ℕ) → are_places u is ≡ true → are_places u (take c is) ≡ true
places_taken u is zero h = refl
places_taken u [] (suc c) h = refl
places_taken u (j ∷ is) (suc c) h =
    let k = and_parts (nat_lt j (length (elements_of u))) (are_places u is) h in
    and_from (nat_lt j (length (elements_of u))) (are_places u (take c is)) k.0 (places_taken u is c k.1)

places_left : (u : Tree) (is : List ℕ) (f : ℕ) → are_places u is ≡ true → are_places u (drop f is) ≡ true
places_left u [] zero h = refl
places_left u (j ∷ is) zero h = h
places_left u [] (suc f) h = refl
places_left u (j ∷ is) (suc f) h = places_left u is f (and_parts (nat_lt j (length (elements_of u))) (are_places u is) h).1

-- a place in a part of the elements
pub place_in : (es : List Tree) (m s i at : ℕ) → i < length (take m (drop s es)) → at ≡ s + i → at < length es
place_in es m s i at h e = omega (arith, length-take m (drop s es), length-drop s es)

-- ---- parts of runs

pub narrows_same : (r r' : Taken) → r' ≡ r → Narrows r r'
narrows_same r r' e = record {
  fits = λ ss t h. ap (bare_fits ss t) e ∙ h;
  left = λ ss t i h. ap (left_fits ss t i) e ∙ h;
}

pub narrows_none : (r : Taken) → is_single r ≡ true → Narrows r Nothing
narrows_none Nothing h = cc
narrows_none (At p) h = record { fits = λ ss t k. refl; left = λ ss t i k. k }
narrows_none (Slice p f n) h = cc
narrows_none (Picked p is) h = cc
narrows_none (Wrapped j p is) h = record { fits = λ ss t k. cc; left = λ ss t i k. cc }

pub narrows_slice : (p p' : Place) (m k m' k' : ℕ) → p' ≡ p → Narrows (Slice p m k) (Slice p' m' k')
narrows_slice p p' m k m' k' e = record {
  fits = λ ss t h. refl;
  left = λ ss t i h. ap (is_headed ss t i) e ∙ h;
}

pub narrows_picked : (r : Taken) (p p' : Place) (is js : List ℕ) (c f : ℕ) → r ≡ Picked p is → p' ≡ p → js ≡ take c (drop f is) → Narrows r (Picked p' js)
narrows_picked r p p' is js c f g e h = subst (λ z. Narrows z (Picked p' js)) (sym g) (record {
  fits = λ ss t k. (λ v. are_places (tree_at ss t (e v)) (h v)) ∙ cut (tree_at ss t p) k;
  left = λ ss t i k.
      let b = (flags_at (part_at ss i)).orderless in
      let d = is_headed ss t i p in
      let x = parts b d (are_places (tree_at ss t p) is) k in
      (λ v. b && is_headed ss t i (e v) && are_places (tree_at ss t (e v)) (h v)) ∙ all b d (are_places (tree_at ss t p) (take c (drop f is))) x.0 x.1.0 (cut (tree_at ss t p) x.1.1);
})
  where
    cut : (u : Tree) → are_places u is ≡ true → are_places u (take c (drop f is)) ≡ true
    cut u k = places_taken u (drop f is) c (places_left u is f k)

    parts : (a b d : Bool) → (a && b && d) ≡ true → (a ≡ true) × ((b ≡ true) × (d ≡ true))
    parts true true true e = (refl, (refl, refl))
    parts true true false e = cc
    parts true false d e = cc
    parts false b d e = cc

    all : (a b d : Bool) → a ≡ true → b ≡ true → d ≡ true → (a && b && d) ≡ true
    all true true true x y z = refl
    all true true false x y z = cc
    all true false d x y z = cc
    all false b d x y z = cc

-- ---- a run for an element

pub stretched_head : (t : Tree) (s : Part) (f : Tree → Bool) → ((flags_at s).flat && f (head_at s)) ≡ true → or_tree t (keeps s) ≡ head_at s
stretched_head t (part.Nodes g h hp qs) f e = refl
stretched_head t (part.Exactly x) f e = cc
stretched_head t (part.Blank c h) f e = cc
stretched_head t (part.Named x q) f e = cc
stretched_head t (part.Applies x q) f e = cc
stretched_head t (part.Holds x q) f e = cc
stretched_head t (part.Hold q) f e = cc
stretched_head t (part.Optional d q) f e = cc
stretched_head t (part.Alternatives qs) f e = cc
stretched_head t (part.Repeated c q) f e = cc
stretched_head t (part.Except x q) f e = cc

abbrev five : Bool → Bool → Bool → Bool → Bool → Bool
five a b c d e = a || b || c || d || e

first : (a b c d e : Bool) → a ≡ true → five a b c d e ≡ true
first a b c d e h = or_left (a || b || c || d) e (or_left (a || b || c) d (or_left (a || b) c (or_left a b h)))

second : (a b c d e : Bool) → b ≡ true → five a b c d e ≡ true
second a b c d e h = or_left (a || b || c || d) e (or_left (a || b || c) d (or_left (a || b) c (or_right a b h)))

third : (a b c d e : Bool) → c ≡ true → five a b c d e ≡ true
third a b c d e h = or_left (a || b || c || d) e (or_left (a || b || c) d (or_right (a || b) c h))

fourth : (a b c d e : Bool) → d ≡ true → five a b c d e ≡ true
fourth a b c d e h = or_left (a || b || c || d) e (or_right (a || b || c) d h)

fifth : (a b c d e : Bool) → e ≡ true → five a b c d e ≡ true
fifth a b c d e h = or_right (a || b || c || d) e h

one_split : (b : Bool) (j : Kind) (g : Kind → Bool) → g (if b then One else j) ≡ true → (g One ≡ true) ⊎ (g j ≡ true)
one_split true j g h = inl h
one_split false j g h = inr h

pub any_one : (f : Flags) (a b : Bool) (g : Kind → Bool) → g One ≡ true → any_kind f a b g ≡ true
any_one f a b g h = first (g One) ((not f.orderless || a) && g kind.Empty) (not f.orderless && g kind.Slice) (f.orderless && g kind.Picked) (b && g kind.Wrapped) h

any_empty : (f : Flags) (a b : Bool) (g : Kind → Bool) → (not f.orderless || a) ≡ true → g kind.Empty ≡ true → any_kind f a b g ≡ true
any_empty f a b g o h = second (g One) ((not f.orderless || a) && g kind.Empty) (not f.orderless && g kind.Slice) (f.orderless && g kind.Picked) (b && g kind.Wrapped) (and_from (not f.orderless || a) (g kind.Empty) o h)

any_slice : (f : Flags) (a b : Bool) (g : Kind → Bool) → not f.orderless ≡ true → g kind.Slice ≡ true → any_kind f a b g ≡ true
any_slice f a b g o h = third (g One) ((not f.orderless || a) && g kind.Empty) (not f.orderless && g kind.Slice) (f.orderless && g kind.Picked) (b && g kind.Wrapped) (and_from (not f.orderless) (g kind.Slice) o h)

any_picked : (f : Flags) (a b : Bool) (g : Kind → Bool) → f.orderless ≡ true → g kind.Picked ≡ true → any_kind f a b g ≡ true
any_picked f a b g o h = fourth (g One) ((not f.orderless || a) && g kind.Empty) (not f.orderless && g kind.Slice) (f.orderless && g kind.Picked) (b && g kind.Wrapped) (and_from f.orderless (g kind.Picked) o h)

any_wrapped : (f : Flags) (a b : Bool) (g : Kind → Bool) → b ≡ true → g kind.Wrapped ≡ true → any_kind f a b g ≡ true
any_wrapped f a b g o h = fifth (g One) ((not f.orderless || a) && g kind.Empty) (not f.orderless && g kind.Slice) (f.orderless && g kind.Picked) (b && g kind.Wrapped) (and_from b (g kind.Wrapped) o h)

-- a slice of whatever length
any_of_slice : (f : Flags) (a b : Bool) (g : Kind → Bool) (n : ℕ) → not f.orderless ≡ true → g (slice_kind n) ≡ true → any_kind f a b g ≡ true
any_of_slice f a b g zero o h = any_empty f a b g (or_left (not f.orderless) a o) h
any_of_slice f a b g (suc zero) o h = any_one f a b g h
any_of_slice f a b g (suc (suc n)) o h = any_slice f a b g o h

pub element_serves : (ss : List Part) (t : Tree) (i q : ℕ) (r : Taken) → element_fits ss t i r ≡ true → ElementServes ss t i q r
element_serves ss t i q Nothing h = (refl, λ x k e. any_empty (flags_at (part_at ss i)) (stands_alone ss i) (stretches (site_at ss i) (pat ss q)) (λ j. lends (pat ss q) j x k) (or_right (not (flags_at (part_at ss i)).orderless) (stands_alone ss i) h) e)
element_serves ss t i q (At p) h = (refl, λ x k e. any_one (flags_at (part_at ss i)) (stands_alone ss i) (stretches (site_at ss i) (pat ss q)) (λ j. lends (pat ss q) j x k) e)
element_serves ss t i q (Slice p f n) h = (
  refl,
  λ x k e. any_of_slice (flags_at (part_at ss i)) (stands_alone ss i) (stretches (site_at ss i) (pat ss q)) (λ j. lends (pat ss q) j x k) (length (run_at ss t (Slice p f n))) (and_parts (not (flags_at (part_at ss i)).orderless) (is_headed ss t i p) h).0 e,
)
element_serves ss t i q (Picked p is) h =
    let o = and_parts ((flags_at (part_at ss i)).orderless && is_headed ss t i p) (are_places (tree_at ss t p) is) h in
    let l = and_parts (flags_at (part_at ss i)).orderless (is_headed ss t i p) o.0 in (
      o.1,
      λ x k e. elim (one_split (nat_eq (length is) 1) kind.Picked (λ j. lends (pat ss q) j x k) e) [
        | inl one ↦ any_one (flags_at (part_at ss i)) (stands_alone ss i) (stretches (site_at ss i) (pat ss q)) (λ j. lends (pat ss q) j x k) one
        | inr more ↦ any_picked (flags_at (part_at ss i)) (stands_alone ss i) (stretches (site_at ss i) (pat ss q)) (λ j. lends (pat ss q) j x k) l.0 more
      ],
    )
element_serves ss t i q (Wrapped j p is) h = cc

pub element_copied : (ss : List Part) (t : Tree) (i q : ℕ) (r r' : Taken) → r' ≡ r → element_fits ss t i r ≡ true → ElementServes ss t i q r'
element_copied ss t i q r r' e h = element_serves ss t i q r' (ap (element_fits ss t i) e ∙ h)

wrapped_serves : (ss : List Part) (t : Tree) (i q : ℕ) (p : Place) (is : List ℕ) → stretches (site_at ss i) (pat ss q) ≡ true → is_headed ss t i p ≡ true → 1 < length is → are_places (tree_at ss t p) is ≡ true → ElementServes ss t i q (Wrapped i p is)
wrapped_serves ss t i q p is s h l a =
    let f = and_parts (flags_at (part_at ss i)).flat (stretchable (head_at (part_at ss i)) (pat ss q)) s in
    let head : same (head_at (part_at ss i)) (child 0 (tree_at ss t p)) ≡ true = ap (λ z. not z || same (head_at (part_at ss i)) (child 0 (tree_at ss t p))) (sym f.0) ∙ h in
    let kept : same (kept_at ss t i) (child 0 (tree_at ss t p)) ≡ true = ap (λ z. same z (child 0 (tree_at ss t p))) (stretched_head t (part_at ss i) (λ g. stretchable g (pat ss q)) s) ∙ head in (
      and_from (stretchable (head_at (part_at ss i)) (pat ss q)) (fits ss t (Wrapped i p is)) f.1
          (and_from (same (kept_at ss t i) (child 0 (tree_at ss t p)) && nat_lt 1 (length is)) (are_places (tree_at ss t p) is)
          (and_from (same (kept_at ss t i) (child 0 (tree_at ss t p))) (nat_lt 1 (length is)) kept (lt-ltb 1 (length is) l)) a),
      λ x k e. any_wrapped (flags_at (part_at ss i)) (stands_alone ss i) (stretches (site_at ss i) (pat ss q)) (λ j. lends (pat ss q) j x k) s e,
    )

pub slice_wrapped : (ss : List Part) (t : Tree) (i q n : ℕ) (r : Taken) (p p' : Place) (f m : ℕ) (is : List ℕ) → r ≡ Slice p f m → p' ≡ p → n ≡ length (run_at ss t r) → 2 ≤ n
    → ((u : Tree) (c : ℕ) → n ≡ length (take c (drop f (elements_of u))) → picked u is ≡ take c (drop f (elements_of u)))
    → ((u : Tree) (c : ℕ) → n ≡ length (take c (drop f (elements_of u))) → are_places u is ≡ true)
    → stretches (site_at ss i) (pat ss q) ≡ true → element_fits ss t i r ≡ true → ElementServes ss t i q (Wrapped i p' is)
slice_wrapped ss t i q n r p p' f m is e g l two a b s h =
    let u = tree_at ss t p in
    let k : n ≡ length (take m (drop f (elements_of u))) = l ∙ ap (λ z. length (run_at ss t z)) e in
    let o = and_parts (not (flags_at (part_at ss i)).orderless) (is_headed ss t i p) (sym (ap (element_fits ss t i) e) ∙ h) in
    let long : 1 < length is = omega (arith, sym (length-map is (element_at u)) ∙ ap length (a u m k)) in
    wrapped_serves ss t i q p' is s (ap (is_headed ss t i) g ∙ o.1) long (ap (λ z. are_places (tree_at ss t z) is) g ∙ b u m k)

pub picked_wrapped : (ss : List Part) (t : Tree) (i q n : ℕ) (r : Taken) (p p' : Place) (is is' : List ℕ) → r ≡ Picked p is → p' ≡ p → is' ≡ is → n ≡ length (run_at ss t r) → 2 ≤ n
    → stretches (site_at ss i) (pat ss q) ≡ true → element_fits ss t i r ≡ true → ElementServes ss t i q (Wrapped i p' is')
picked_wrapped ss t i q n r p p' is is' e g x l two s h =
    let u = tree_at ss t p in
    let k : n ≡ length (picked u is) = l ∙ ap (λ z. length (run_at ss t z)) e in
    let o = and_parts ((flags_at (part_at ss i)).orderless && is_headed ss t i p) (are_places u is) (sym (ap (element_fits ss t i) e) ∙ h) in
    let d = and_parts (flags_at (part_at ss i)).orderless (is_headed ss t i p) o.0 in
    let long : 1 < length is' = omega (arith, length-map is (element_at u), ap length x) in
    wrapped_serves ss t i q p' is' s (ap (is_headed ss t i) g ∙ d.1) long ((λ v. are_places (tree_at ss t (g v)) (x v)) ∙ o.1)
