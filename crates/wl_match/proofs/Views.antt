-- What a candidate lends.
use Rattle.std.proofs.Common.{◌≡◌, ◌≢◌, ◌<◌, ◌≤◌, ◌&&◌, ℕ, zero, suc, true, false, List, [], ◌∷◌, ◌++◌, length, get_or, map, if◌then◌else◌, Option, Some, None, refl, ap, sym, subst, ◌∙◌, arith}
use Rattle.std.specs.Prelude.{MatchOption, nat_lt, slice_get, unwrap_or}
use Rattle.std.specs.List.{All}
use Rattle.std.proofs.lemmas.Bool.{and_parts, eq-eqb, ltb-true, ne_eqb}
use Rattle.std.proofs.lemmas.List.{length-map}
use Rattle.std.proofs.lemmas.List.Elements.{All-cons, All-head, All-nil, All-tail}
use Rattle.wl_expr.specs.Tree.{Tree, node, from_list}
use Rattle.wl_expr.specs.Same.{same, same_decides}
use Rattle.wl_expr.specs.Stamped.{Stamped, plain}
use Rattle.wl_match.specs.declared.part.Part.{Part}
use Rattle.wl_match.specs.declared.taken.Place.{Place}
use Rattle.wl_match.specs.declared.taken.Taken.{Taken}
use Rattle.wl_match.specs.declared.taken.Taken.TheVariants as taken
use Rattle.wl_match.specs.declared.taken.Mark.{Mark}
use Rattle.wl_match.specs.declared.taken.Mark.TheVariants.{Bound, Noted}
use Rattle.wl_match.specs.declared.machine.State.{State}
use Rattle.wl_match.specs.declared.machine.State.TheVariants.{Fresh, Begun, Dead}
use Rattle.wl_match.specs.Parts.{kept, kept_by}
use Rattle.wl_match.specs.Runs.{child, element_at, elements_of, kept_at, part_at, picked, run_at, tree_at}
use Rattle.wl_match.specs.Means.{ask_at, entries}
use Rattle.wl_match.specs.declared.view.Test.{Test}
use Rattle.wl_match.specs.Plays.{trail_of}
use Rattle.wl_match.specs.Shown.{Asks, IsTest, tests_in}
use Rattle.std.specs.Option.{option_map}
use Rattle.wl_match.specs.Left.{Searches, SearchesIn, bound_in, marks_in}
use Rattle.wl_match.specs.Serves.{Fits}
use Rattle.wl_match.specs.declared.machine.Machine.{Machine}
use Rattle.wl_match.specs.declared.walk.Walk.{Walk}
use Rattle.std.specs.Global.{Global}
use Rattle.wl_match.specs.Kinds.{ArePlaces, Kind, One, kind_of_slice, of_name, of_test}
use Rattle.wl_match.specs.Kinds as kind
use Rattle.wl_match.specs.Fits.{all_fit, are_places, fits, has_test, kind_at, mark_fits, may_lend, one_or, slice_kind}
use Rattle.wl_match.specs.Listed.{noted_in}

-- ---- stamps

front : (P : Stamped → Type 0) (xs ys : List Stamped) → All P (xs ++ ys) → All P xs × All P ys
front P [] ys h = (All-nil P, h)
front P (x ∷ xs) ys h =
    let k = front P xs ys (All-tail P x (xs ++ ys) h) in
    (All-cons P x xs (All-head P x (xs ++ ys) h) k.0, k.1)

-- what a part keeps is kept
pub kept_by_part : (P : Stamped → Type 0) (ss : List Part) (i : ℕ) (s : Part) → part_at ss i ≡ s → All P (kept ss) → All P (kept_by s)
unfolding kept
kept_by_part P [] i s e h = subst (λ z. All P (kept_by z)) e (All-nil P)
kept_by_part P (r ∷ ss) zero s e h = subst (λ z. All P (kept_by z)) e (front P (kept_by r) (kept ss) h).0
kept_by_part P (r ∷ ss) (suc i) s e h = kept_by_part P ss i s e (front P (kept_by r) (kept ss) h).1

-- ---- marks

pub mark_fits_at : (ss : List Part) (t : Tree) (ms : List Mark) (k : ℕ) (m : Mark) → k < length ms → m ≡ get_or ms k m → all_fit ss t ms ≡ true → mark_fits ss t m ≡ true
mark_fits_at ss t [] k m h e f = absurd (omega arith)
mark_fits_at ss t (x ∷ ms) zero m h e f = ap (mark_fits ss t) e ∙ (and_parts (mark_fits ss t x) (all_fit ss t ms) f).0
mark_fits_at ss t (x ∷ ms) (suc k) m h e f = mark_fits_at ss t ms k m (omega arith) e (and_parts (mark_fits ss t x) (all_fit ss t ms) f).1

-- ---- views

pub bound_marks : (ss : List Part) (t : Tree) (s : State) → entries ss t (marks_in s) ≡ bound_in ss t s
unfolding trail_of
bound_marks ss t (Fresh a) = refl
bound_marks ss t (Begun w) = refl
bound_marks ss t Dead = refl

in_fits : (ss : List Part) (t : Tree) (s : State) → SearchesIn ss t s → all_fit ss t (marks_in s) ≡ true
in_fits ss t (Fresh a) h = refl
in_fits ss t (Begun w) h = h.trail
in_fits ss t Dead h = refl

-- ---- searches

pub searched_fits : (ss : List Part) (t : Tree) (m : Machine) → Searches ss t m → all_fit ss t (marks_in m.state) ≡ true
unfolding Searches
searched_fits ss t m h = in_fits ss t m.state h

pub fresh_searches : (ss : List Part) (t : Tree) (m : Machine) (a : Global) → m.state ≡ Fresh a → Searches ss t m
unfolding Searches
fresh_searches ss t m a e = subst (SearchesIn ss t) (sym e) tt

pub dead_searches : (ss : List Part) (t : Tree) (m : Machine) → m.state ≡ Dead → Searches ss t m
unfolding Searches
dead_searches ss t m e = subst (SearchesIn ss t) (sym e) tt

pub begun_searches : (ss : List Part) (t : Tree) (m : Machine) (w : Walk) → m.state ≡ Begun w → Fits ss t w → Searches ss t m
unfolding Searches
begun_searches ss t m w e f = subst (SearchesIn ss t) (sym e) f

pub searched_walk : (ss : List Part) (t : Tree) (m : Machine) (w : Walk) → m.state ≡ Begun w → Searches ss t m → Fits ss t w
unfolding Searches
searched_walk ss t m w e h = subst (SearchesIn ss t) e h

-- ---- runs

pub one_shown : (ts : List Stamped) (x : Stamped) (us : List Tree) → map plain ts ≡ us → length ts ≡ 1 → x ≡ get_or ts 0 x → plain x ∷ [] ≡ us
one_shown [] x us e l g = absurd (omega arith)
one_shown (y ∷ []) x us e l g = ap (λ z. plain z ∷ []) g ∙ e
one_shown (y ∷ z ∷ ts) x us e l g = absurd (omega arith)

pub one_picked : (u : Tree) (is : List ℕ) (d : ℕ) (v : Tree) → v ≡ element_at u (get_or is 0 d) → length is ≡ 1 → v ∷ [] ≡ picked u is
one_picked u [] d v e l = absurd (omega arith)
one_picked u (i ∷ []) d v e l = ap (λ z. z ∷ []) e
one_picked u (i ∷ j ∷ is) d v e l = absurd (omega arith)

pub wrapped_shown : (ss : List Part) (t : Tree) (i : ℕ) (p : Place) (is js : List ℕ) (run : Taken) (u : Tree) → run ≡ taken.Wrapped i p is → u ≡ tree_at ss t p → js ≡ is → fits ss t run ≡ true → node (child 0 u) (from_list (picked u js)) ∷ [] ≡ run_at ss t run
wrapped_shown ss t i p is js run u e f g h =
    let k = and_parts (same (kept_at ss t i) (child 0 (tree_at ss t p)) && nat_lt 1 (length is)) (are_places (tree_at ss t p) is) (sym (ap (fits ss t) e) ∙ h) in
    let a = and_parts (same (kept_at ss t i) (child 0 (tree_at ss t p))) (nat_lt 1 (length is)) k.0 in
    let w : kept_at ss t i ≡ child 0 (tree_at ss t p) = (same_decides (kept_at ss t i) (child 0 (tree_at ss t p))).0 a.0 in
    (λ v. node (child 0 (f v)) (from_list (picked (f v) (g v))) ∷ [])
    ∙ (λ v. node (sym w v) (from_list (picked (tree_at ss t p) is)) ∷ [])
    ∙ sym (ap (run_at ss t) e)

kind_one : (n : ℕ) (k : Kind) → n ≡ 1 → One ≡ one_or n k
kind_one n k e = ap (λ z. if z then One else k) (sym (eq-eqb n 1 e))

kind_other : (n : ℕ) (k : Kind) → n ≢ 1 → k ≡ one_or n k
kind_other n k e = ap (λ z. if z then One else k) (sym (ne_eqb n 1 e))

pub slice_one : (ss : List Part) (t : Tree) (p : Place) (f n : ℕ) (run : Taken) (ts : List Stamped) → run ≡ taken.Slice p f n → map plain ts ≡ run_at ss t run → length ts ≡ 1 → One ≡ kind_at ss t run
slice_one ss t p f n run ts e g l =
    let one : length (run_at ss t (taken.Slice p f n)) ≡ 1 = sym (ap length (g ∙ ap (run_at ss t) e)) ∙ length-map ts plain ∙ l in
    ap slice_kind (sym one) ∙ ap (kind_at ss t) (sym e)

kind_more : (ts : List Stamped) → length ts ≢ 1 → kind_of_slice ts ≡ slice_kind (length ts)
kind_more [] h = refl
kind_more (t ∷ []) h = absurd (h refl)
kind_more (t ∷ u ∷ ts) h = refl

pub slice_more : (ss : List Part) (t : Tree) (p : Place) (f n : ℕ) (run : Taken) (ts : List Stamped) → run ≡ taken.Slice p f n → map plain ts ≡ run_at ss t run → length ts ≢ 1 → kind_of_slice ts ≡ kind_at ss t run
slice_more ss t p f n run ts e g l =
    kind_more ts l ∙ ap slice_kind (sym (length-map ts plain) ∙ ap length (g ∙ ap (run_at ss t) e)) ∙ ap (kind_at ss t) (sym e)

pub picked_one : (ss : List Part) (t : Tree) (p : Place) (is js : List ℕ) (run : Taken) → run ≡ taken.Picked p is → js ≡ is → length js ≡ 1 → One ≡ kind_at ss t run
picked_one ss t p is js run e g l = kind_one (length is) kind.Picked (ap length (sym g) ∙ l) ∙ ap (kind_at ss t) (sym e)

pub picked_more : (ss : List Part) (t : Tree) (p : Place) (is js : List ℕ) (run : Taken) → run ≡ taken.Picked p is → js ≡ is → length js ≢ 1 → kind.Picked ≡ kind_at ss t run
picked_more ss t p is js run e g l = kind_other (length is) kind.Picked (λ h. l (ap length g ∙ h)) ∙ ap (kind_at ss t) (sym e)

all_places : (u : Tree) (is : List ℕ) → are_places u is ≡ true → ArePlaces u is
all_places u [] h = All-nil (λ i. i < length (elements_of u))
all_places u (i ∷ is) h =
    let k = and_parts (nat_lt i (length (elements_of u))) (are_places u is) h in
    All-cons (λ i. i < length (elements_of u)) i is (ltb-true i (length (elements_of u)) k.0) (all_places u is k.1)

pub picked_places : (ss : List Part) (t : Tree) (p : Place) (is js : List ℕ) (run : Taken) (u : Tree) → run ≡ taken.Picked p is → js ≡ is → u ≡ tree_at ss t p → fits ss t run ≡ true → ArePlaces u js
picked_places ss t p is js run u e g f h = all_places u js ((λ v. are_places (f v) (g v)) ∙ sym (ap (fits ss t) e) ∙ h)

pub wrapped_places : (ss : List Part) (t : Tree) (i : ℕ) (p : Place) (is js : List ℕ) (run : Taken) (u : Tree) → run ≡ taken.Wrapped i p is → js ≡ is → u ≡ tree_at ss t p → fits ss t run ≡ true → (2 ≤ length js) × ArePlaces u js
wrapped_places ss t i p is js run u e g f h =
    let k = and_parts (same (kept_at ss t i) (child 0 (tree_at ss t p)) && nat_lt 1 (length is)) (are_places (tree_at ss t p) is) (sym (ap (fits ss t) e) ∙ h) in
    let a = and_parts (same (kept_at ss t i) (child 0 (tree_at ss t p))) (nat_lt 1 (length is)) k.0 in
    let l : 1 < length is = ltb-true 1 (length is) a.1 in
    (omega (arith, ap length g), all_places u js ((λ v. are_places (f v) (g v)) ∙ k.1))

-- ---- tests

tests_noted : (ss : List Part) (t : Tree) (ms : List Mark) (k : ℕ) → slice_get (tests_in (entries ss t ms)) k ≡ option_map (λ n. (ask_at (part_at ss n.0), run_at ss t n.1)) (slice_get (noted_in ms) k)
tests_noted ss t [] k = refl
tests_noted ss t (Bound i r ∷ ms) k = tests_noted ss t ms k
tests_noted ss t (Noted i r ∷ ms) zero = refl
tests_noted ss t (Noted i r ∷ ms) (suc k) = tests_noted ss t ms k

pub past_tests : (ss : List Part) (t : Tree) (ms : List Mark) (k : ℕ) → None ≡ slice_get (noted_in ms) k → IsTest None (slice_get (tests_in (entries ss t ms)) k)
past_tests ss t ms k e = subst (IsTest None) (sym (tests_noted ss t ms k ∙ ap (option_map (λ n. (ask_at (part_at ss n.0), run_at ss t n.1))) (sym e))) tt

pub asked : (ss : List Part) (t : Tree) (ms : List Mark) (k i : ℕ) (r : Taken) (s : Part) (x : Test) (xs : List Tree) → Some (i, r) ≡ slice_get (noted_in ms) k → part_at ss i ≡ s → xs ≡ run_at ss t r → Asks x (ask_at s) xs → IsTest (Some x) (slice_get (tests_in (entries ss t ms)) k)
asked ss t ms k i r s x xs e f g h =
    subst (IsTest (Some x)) (sym (tests_noted ss t ms k ∙ ap (option_map (λ n. (ask_at (part_at ss n.0), run_at ss t n.1))) (sym e)))
    (subst (λ z. Asks x (ask_at z) (run_at ss t r)) (sym f) (subst (Asks x (ask_at s)) g h))

pub noted_fits : (ss : List Part) (t : Tree) (ms : List Mark) (k i : ℕ) (r : Taken) → Some (i, r) ≡ slice_get (noted_in ms) k → all_fit ss t ms ≡ true → (has_test (part_at ss i) ≡ true) × ((fits ss t r ≡ true) × (may_lend ss t (of_test (ask_at (part_at ss i))) r ≡ true))
noted_fits ss t [] k i r e h = cc
noted_fits ss t (Bound j q ∷ ms) k i r e h = noted_fits ss t ms k i r e (and_parts (mark_fits ss t (Bound j q)) (all_fit ss t ms) h).1
noted_fits ss t (Noted j q ∷ ms) (suc k) i r e h = noted_fits ss t ms k i r e (and_parts (mark_fits ss t (Noted j q)) (all_fit ss t ms) h).1
noted_fits ss t (Noted j q ∷ ms) zero i r e h =
    let a : i ≡ j = ap (λ o. (unwrap_or {T = ℕ × Taken} o (i, r)).0) e in
    let b : r ≡ q = ap (λ o. (unwrap_or {T = ℕ × Taken} o (i, r)).1) e in
    let m : mark_fits ss t (Noted i r) ≡ true = (λ v. mark_fits ss t (Noted (a v) (b v))) ∙ (and_parts (mark_fits ss t (Noted j q)) (all_fit ss t ms) h).0 in
    let k = and_parts (has_test (part_at ss i) && fits ss t r) (may_lend ss t (of_test (ask_at (part_at ss i))) r) m in
    let l = and_parts (has_test (part_at ss i)) (fits ss t r) k.0 in
    (l.0, (l.1, k.1))

pub no_test : (ss : List Part) (i : ℕ) (s : Part) → part_at ss i ≡ s → has_test s ≡ false → has_test (part_at ss i) ≡ true → ⊥
no_test ss i s e f h = let k : true ≡ false = sym h ∙ ap has_test e ∙ f in cc

pub given : (ss : List Part) (t : Tree) (ms : List Mark) (k i : ℕ) (r : Taken) (s : Part) (o : Option Test) (xs : List Tree) → Some (i, r) ≡ slice_get (noted_in ms) k → part_at ss i ≡ s → xs ≡ run_at ss t r → MatchOption o (has_test s ≡ false) (λ x. Asks x (ask_at s) xs) → has_test (part_at ss i) ≡ true → IsTest o (slice_get (tests_in (entries ss t ms)) k)
given ss t ms k i r s (Some x) xs e f g h o = asked ss t ms k i r s x xs e f g h
given ss t ms k i r s None xs e f g h o = absurd (no_test ss i s f h o)
