-- What fits is kept by the steps of a walk.
use Rattle.std.proofs.Common.{◌≡◌, ◌≢◌, ◌+◌, ◌-◌, ◌&&◌, ◌||◌, ℕ, Bool, true, false, not, List, [], ◌∷◌, length, take, drop, if◌then◌else◌, Option, Some, None, refl, ap, sym, subst, ◌∙◌, arith}
use Rattle.std.specs.Prelude.{IfSome, nat_eq, Vec}
use Rattle.std.specs.Global.{Global}
use Rattle.std.specs.Str.{bytes_eq}
use Rattle.std.proofs.lemmas.Bool.{and_from, and_parts, eq-eqb, or_left, or_right}
use Rattle.std.proofs.lemmas.List.{length-map}
use Rattle.std.proofs.lemmas.List.Elements.{All-cons, All-nil}
use Rattle.wl_expr.specs.Tree.{Tree, Trees, node}
use Rattle.wl_expr.specs.Same.{same, same_decides}
use Rattle.wl_expr.specs.Words.{head_of}
use Rattle.wl_match.specs.declared.flags.Flags.{Flags}
use Rattle.wl_match.specs.declared.part.Part.{Part}
use Rattle.wl_match.specs.declared.part.Part.TheVariants as part
use Rattle.wl_match.specs.declared.taken.Place.{Place}
use Rattle.wl_match.specs.declared.taken.Taken.{Taken}
use Rattle.wl_match.specs.declared.taken.Taken.TheVariants.{Nothing, Tree as At, Slice, Picked, Wrapped}
use Rattle.wl_match.specs.declared.taken.Goal.{Goal}
use Rattle.wl_match.specs.declared.taken.Goal.TheVariants.{Match, Members, Turn, Elements, Bind, Note}
use Rattle.wl_match.specs.declared.taken.Mark.TheVariants.{Bound, Noted}
use Rattle.wl_match.specs.declared.walk.Walk.{Walk}
use Rattle.wl_match.specs.Pattern.{Count, Ask, applies, holds, refuses, Pat, Pats, exactly, blank, named, tested, hold, optional, alternatives, repeated, except, nodes, also, any_optional, name_in, stretchable}
use Rattle.wl_match.specs.Trials.{all_have, name_of, stretches}
use Rattle.wl_match.specs.Parts.{inner_or_blank, pat, pat_of, pats_of}
use Rattle.wl_match.specs.Runs.{child, element_at, part_at, run_at, tree_at}
use Rattle.wl_match.specs.Means.{IsPart, ask_at, children, flags_at, from_child, head_at, inside, name_at, site_at}
use Rattle.wl_match.specs.Plays.{IsEmpty, Keeps, Marks, Puts}
use Rattle.wl_match.specs.Kinds.{Kind, One, Purpose, of_name, of_test, any_kind, any_lends, elements_lend, is_it, lends, same_ask, same_kind, same_purpose}
use Rattle.wl_match.specs.Kinds as kind
use Rattle.wl_match.specs.Fits.{fits, slice_kind, has_test, kind_at, mark_fits, may_lend}
use Rattle.wl_match.specs.Serves.{ElementServes, ElementsFit, ElementsServe, Fits, GoalFits, MatchFits, NodeServes, Serves, bare_fits, element_fits, is_bare, is_headed, is_like, left_fits, may_stretch, stands_alone, Narrows}
use Rattle.std.proofs.Math.Bool.{and-true}
use Rattle.wl_match.proofs.Fitting.{any_one}
use Rattle.wl_match.proofs.Picks.{the_one}

pub put_one : (ss : List Part) (t : Tree) (old new : Walk) (g : Goal) → Puts old new (g ∷ []) → GoalFits ss t g → Fits ss t old → Fits ss t new
put_one ss t old new g p h f = p.fits ss t (All-cons (GoalFits ss t) g [] h (All-nil (GoalFits ss t))) f

pub put_two : (ss : List Part) (t : Tree) (old new : Walk) (g h : Goal) → Puts old new (g ∷ h ∷ []) → GoalFits ss t g → GoalFits ss t h → Fits ss t old → Fits ss t new
put_two ss t old new g h p x y f = p.fits ss t (All-cons (GoalFits ss t) g (h ∷ []) x (All-cons (GoalFits ss t) h [] y (All-nil (GoalFits ss t)))) f

-- ---- what a run is for

kind_refl : (k : Kind) → same_kind k k ≡ true
kind_refl One = refl
kind_refl kind.Empty = refl
kind_refl kind.Slice = refl
kind_refl kind.Picked = refl
kind_refl kind.Wrapped = refl

bytes_refl : (x : List ℕ) → bytes_eq x x ≡ true
bytes_refl [] = refl
bytes_refl (x ∷ xs) = and_from (nat_eq x x) (bytes_eq xs xs) (eq-eqb x x refl) (bytes_refl xs)

ask_refl : (a : Ask) → same_ask a a ≡ true
ask_refl (applies t) = (same_decides t t).1 refl
ask_refl (holds t) = (same_decides t t).1 refl
ask_refl (refuses t) = (same_decides t t).1 refl

purpose_refl : (x : Purpose) → same_purpose x x ≡ true
purpose_refl (of_name x) = bytes_refl x
purpose_refl (of_test a) = ask_refl a

it_refl : (x : Purpose) (k : Kind) → is_it x k x k ≡ true
it_refl x k = and_from (same_purpose x x) (same_kind k k) (purpose_refl x) (kind_refl k)

-- ---- runs under a head of their own

stretch_as : (ss : List Part) (i q : ℕ) (r : Taken) → ((h : Tree) → stretchable h (pat ss i) ≡ stretchable h (pat ss q)) → may_stretch ss i r ≡ true → may_stretch ss q r ≡ true
stretch_as ss i q Nothing e h = refl
stretch_as ss i q (At p) e h = refl
stretch_as ss i q (Slice p f n) e h = refl
stretch_as ss i q (Picked p is) e h = refl
stretch_as ss i q (Wrapped j p is) e h = sym (e (head_at (part_at ss j))) ∙ h

bare_as : (ss : List Part) (i : ℕ) (r : Taken) → ((h : Tree) → stretchable h (pat ss i) ≡ false) → may_stretch ss i r ≡ true → is_bare r ≡ true
bare_as ss i Nothing e h = refl
bare_as ss i (At p) e h = refl
bare_as ss i (Slice p f n) e h = refl
bare_as ss i (Picked p is) e h = refl
bare_as ss i (Wrapped j p is) e h = sym (e (head_at (part_at ss j))) ∙ h

bare_may : (ss : List Part) (q : ℕ) (r : Taken) → is_bare r ≡ true → may_stretch ss q r ≡ true
bare_may ss q Nothing h = refl
bare_may ss q (At p) h = refl
bare_may ss q (Slice p f n) h = refl
bare_may ss q (Picked p is) h = refl
bare_may ss q (Wrapped j p is) h = cc

-- a pattern inside another one, on the same run
within : (ss : List Part) (t : Tree) (i q : ℕ) (r : Taken) → ((h : Tree) → stretchable h (pat ss i) ≡ stretchable h (pat ss q)) → ((x : Purpose) (k : Kind) → lends (pat ss q) (kind_at ss t r) x k ≡ true → lends (pat ss i) (kind_at ss t r) x k ≡ true) → MatchFits ss t i r → MatchFits ss t q r
within ss t i q r e f h =
    let a = and_parts (may_stretch ss i r) (fits ss t r) h.0 in (
      and_from (may_stretch ss q r) (fits ss t r) (stretch_as ss i q r e a.0) a.1,
      λ x k l. h.1 x k (f x k l),
    )

-- a pattern that takes no more than one expression as one
bared : (ss : List Part) (t : Tree) (i : ℕ) (r : Taken) → ((h : Tree) → stretchable h (pat ss i) ≡ false) → MatchFits ss t i r → bare_fits ss t r ≡ true
bared ss t i r e h =
    let a = and_parts (may_stretch ss i r) (fits ss t r) h.0 in
    and_from (is_bare r) (fits ss t r) (bare_as ss i r e a.0) a.1

fits_bare : (ss : List Part) (t : Tree) (q : ℕ) (r : Taken) → bare_fits ss t r ≡ true → (may_stretch ss q r && fits ss t r) ≡ true
fits_bare ss t q r h =
    let a = and_parts (is_bare r) (fits ss t r) h in
    and_from (may_stretch ss q r) (fits ss t r) (bare_may ss q r a.0) a.1

-- ---- parts

part_pat : (ss : List Part) (i : ℕ) (s x : Part) → IsPart ss i s → s ≡ x → pat ss i ≡ pat_of (pat ss) x
part_pat ss i s x h f = h.is ∙ ap (pat_of (pat ss)) f

part_here : (ss : List Part) (i : ℕ) (s x : Part) → IsPart ss i s → s ≡ x → x ≡ part_at ss i
part_here ss i s x h f = sym (h.part ∙ f)

no_drop : (xs : List ℕ) → drop 0 xs ≡ xs
no_drop [] = refl
no_drop (x ∷ xs) = refl

noted_fits : (ss : List Part) (t : Tree) (i : ℕ) (r r' : Taken) → r' ≡ r → has_test (part_at ss i) ≡ true → fits ss t r ≡ true → may_lend ss t (of_test (ask_at (part_at ss i))) r ≡ true → mark_fits ss t (Noted i r') ≡ true
noted_fits ss t i r r' e o a b =
    ap (λ z. mark_fits ss t (Noted i z)) e
    ∙ and_from (has_test (part_at ss i) && fits ss t r) (may_lend ss t (of_test (ask_at (part_at ss i))) r) (and_from (has_test (part_at ss i)) (fits ss t r) o a) b

pub named_fits : (ss : List Part) (t : Tree) (i q : ℕ) (r r' : Taken) (old new : Walk) (s x : Part) → IsPart ss i s → s ≡ x → pat_of (pat ss) x ≡ named (name_at x) (pat ss q) → r' ≡ r → Puts old new (Match q r ∷ Bind i r' ∷ []) → GoalFits ss t (Match i r) → Fits ss t old → Fits ss t new
named_fits ss t i q r r' old new s x h f g e p a =
    let nm = name_at (part_at ss i) in
    let j = kind_at ss t r in
    let w : pat ss i ≡ named nm (pat ss q) = part_pat ss i s x h f ∙ g ∙ ap (λ z. named (name_at z) (pat ss q)) (part_here ss i s x h f) in
    let own : lends (pat ss i) j (of_name nm) j ≡ true = ap (λ z. lends z j (of_name nm) j) w ∙ or_left (is_it (of_name nm) j (of_name nm) j) (lends (pat ss q) j (of_name nm) j) (it_refl (of_name nm) j) in
    put_two ss t old new (Match q r) (Bind i r') p
    (within ss t i q r (λ y. ap (stretchable y) w) (λ y k l. ap (λ z. lends z j y k) w ∙ or_right (is_it (of_name nm) j y k) (lends (pat ss q) j y k) l) a)
    (ap (λ z. mark_fits ss t (Bound i z)) e ∙ and_from (fits ss t r) (may_lend ss t (of_name nm) r) (and_parts (may_stretch ss i r) (fits ss t r) a.0).1 (a.1 (of_name nm) j own))

pub tested_fits : (ss : List Part) (t : Tree) (i q : ℕ) (r r' : Taken) (old new : Walk) (s x : Part) → IsPart ss i s → s ≡ x → pat_of (pat ss) x ≡ tested (ask_at x) (pat ss q) → has_test x ≡ true → r' ≡ r → Puts old new (Match q r ∷ Note i r' ∷ []) → GoalFits ss t (Match i r) → Fits ss t old → Fits ss t new
tested_fits ss t i q r r' old new s x h f g o e p a =
    let ask = ask_at (part_at ss i) in
    let j = kind_at ss t r in
    let w : pat ss i ≡ tested ask (pat ss q) = part_pat ss i s x h f ∙ g ∙ ap (λ z. tested (ask_at z) (pat ss q)) (part_here ss i s x h f) in
    let own : lends (pat ss i) j (of_test ask) j ≡ true = ap (λ z. lends z j (of_test ask) j) w ∙ or_left (is_it (of_test ask) j (of_test ask) j) (lends (pat ss q) j (of_test ask) j) (it_refl (of_test ask) j) in
    put_two ss t old new (Match q r) (Note i r') p
    (within ss t i q r (λ y. ap (stretchable y) w) (λ y k l. ap (λ z. lends z j y k) w ∙ or_right (is_it (of_test ask) j y k) (lends (pat ss q) j y k) l) a)
    (noted_fits ss t i r r' e (ap has_test (sym (part_here ss i s x h f)) ∙ o) (and_parts (may_stretch ss i r) (fits ss t r) a.0).1 (a.1 (of_test ask) j own))

pub held_fits : (ss : List Part) (t : Tree) (i q : ℕ) (r r' : Taken) (old new : Walk) (s x : Part) (w : Pat → Pat) → IsPart ss i s → s ≡ x → pat_of (pat ss) x ≡ w (pat ss q) → ((h : Tree) (p : Pat) → stretchable h (w p) ≡ stretchable h p) → ((p : Pat) (j : Kind) (y : Purpose) (k : Kind) → lends (w p) j y k ≡ lends p j y k) → r' ≡ r → Puts old new (Match q r' ∷ []) → GoalFits ss t (Match i r) → Fits ss t old → Fits ss t new
held_fits ss t i q r r' old new s x w h f g v l e p a =
    let z : pat ss i ≡ w (pat ss q) = part_pat ss i s x h f ∙ g in
    put_one ss t old new (Match q r') p
    (subst (MatchFits ss t q) (sym e) (within ss t i q r (λ y. ap (stretchable y) z ∙ v y (pat ss q)) (λ y k c. ap (λ n. lends n (kind_at ss t r) y k) z ∙ l (pat ss q) (kind_at ss t r) y k ∙ c) a))

pub alternatives_fits : (ss : List Part) (t : Tree) (i : ℕ) (r r' : Taken) (old new : Walk) (s : Part) (qs : Vec ℕ Global) → IsPart ss i s → s ≡ part.Alternatives qs → r' ≡ r → Puts old new (Members i 0 r' ∷ []) → GoalFits ss t (Match i r) → Fits ss t old → Fits ss t new
alternatives_fits ss t i r r' old new s qs h f e p a =
    let w : pat ss i ≡ alternatives (from_child ss i 0) =
    part_pat ss i s (part.Alternatives qs) h f
    ∙ ap (λ z. alternatives (pats_of (pat ss) z)) (sym (no_drop qs.items) ∙ ap (λ z. drop 0 (children z)) (part_here ss i s (part.Alternatives qs) h f)) in
    put_one ss t old new (Members i 0 r') p
    (subst (λ z. GoalFits ss t (Members i 0 z)) (sym e) (bared ss t i r (λ y. ap (stretchable y) w) a, λ y k c. a.1 y k (ap (λ z. lends z (kind_at ss t r) y k) w ∙ c)))

-- the goal of a repeated pattern
pub repeated_fits : (ss : List Part) (t : Tree) (i q : ℕ) (r : Taken) (s x : Part) (c : Count) → IsPart ss i s → s ≡ x → pat_of (pat ss) x ≡ repeated c (pat ss q) → GoalFits ss t (Match i r) → GoalFits ss t (Turn q r)
repeated_fits ss t i q r s x c h f g a =
    let w : pat ss i ≡ repeated c (pat ss q) = part_pat ss i s x h f ∙ g in
    (bared ss t i r (λ y. ap (stretchable y) w) a, λ y k l. a.1 y k (ap (λ z. lends z (kind_at ss t r) y k) w ∙ l))

-- the goals of an excepted one
excepted_inner : (ss : List Part) (t : Tree) (i : ℕ) (o : Option ℕ) (r : Taken) (c : Tree) → pat ss i ≡ except c (inner_or_blank (pat ss) o) → bare_fits ss t r ≡ true → GoalFits ss t (Match i r) → IfSome o (λ q. GoalFits ss t (Match q r))
excepted_inner ss t i None r c w b a = tt
excepted_inner ss t i (Some q) r c w b a =
    let j = kind_at ss t r in
    (fits_bare ss t q r b, λ y k l. a.1 y k (ap (λ z. lends z j y k) w ∙ or_right (is_it (of_test (refuses c)) j y k) (lends (pat ss q) j y k) l))

pub excepted_fits : (ss : List Part) (t : Tree) (i : ℕ) (o : Option ℕ) (r : Taken) (s x : Part) (c : Tree) → IsPart ss i s → s ≡ x → pat_of (pat ss) x ≡ except c (inner_or_blank (pat ss) o) → ask_at x ≡ refuses c → has_test x ≡ true → GoalFits ss t (Match i r) → IfSome o (λ q. GoalFits ss t (Match q r)) × GoalFits ss t (Note i r)
excepted_fits ss t i o r s x c h f g u v a =
    let w : pat ss i ≡ except c (inner_or_blank (pat ss) o) = part_pat ss i s x h f ∙ g in
    let j = kind_at ss t r in
    let b = bared ss t i r (λ y. ap (stretchable y) w) a in
    let own : lends (pat ss i) j (of_test (refuses c)) j ≡ true = ap (λ z. lends z j (of_test (refuses c)) j) w ∙ or_left (is_it (of_test (refuses c)) j (of_test (refuses c)) j) (lends (inner_or_blank (pat ss) o) j (of_test (refuses c)) j) (it_refl (of_test (refuses c)) j) in
    let ask : ask_at (part_at ss i) ≡ refuses c = ap ask_at (sym (part_here ss i s x h f)) ∙ u in (
      excepted_inner ss t i o r c w b a,
      noted_fits ss t i r r refl (ap has_test (sym (part_here ss i s x h f)) ∙ v) (and_parts (is_bare r) (fits ss t r) b).1 (ap (λ z. may_lend ss t (of_test z) r) ask ∙ a.1 (of_test (refuses c)) j own),
    )

-- ---- alternatives, in turn

pub member_fits : (ss : List Part) (t : Tree) (i from q : ℕ) (r r' : Taken) (ps : Pats) → from_child ss i from ≡ also (pat ss q) ps → r' ≡ r → GoalFits ss t (Members i from r) → GoalFits ss t (Match q r')
member_fits ss t i from q r r' ps e g a = subst (MatchFits ss t q) (sym g) (
  fits_bare ss t q r a.0,
  λ y k l. a.1 y k (ap (λ z. any_lends z (kind_at ss t r) y k) e ∙ or_left (lends (pat ss q) (kind_at ss t r) y k) (any_lends ps (kind_at ss t r) y k) l),
)

pub members_fit : (ss : List Part) (t : Tree) (i from q : ℕ) (r r' : Taken) → from_child ss i from ≡ also (pat ss q) (from_child ss i (from + 1)) → r' ≡ r → GoalFits ss t (Members i from r) → GoalFits ss t (Members i (from + 1) r')
members_fit ss t i from q r r' e g a = subst (λ z. GoalFits ss t (Members i (from + 1) z)) (sym g) (
  a.0,
  λ y k l. a.1 y k (ap (λ z. any_lends z (kind_at ss t r) y k) e ∙ or_right (lends (pat ss q) (kind_at ss t r) y k) (any_lends (from_child ss i (from + 1)) (kind_at ss t r) y k) l),
)

kind_of_one : (ss : List Part) (t : Tree) (r : Taken) → length (run_at ss t r) ≡ 1 → is_bare r ≡ true → kind_at ss t r ≡ One
kind_of_one ss t Nothing l b = absurd (omega arith)
kind_of_one ss t (At p) l b = refl
kind_of_one ss t (Slice p f n) l b = ap slice_kind l
kind_of_one ss t (Picked p is) l b = ap (λ z. if z then One else kind.Picked) (eq-eqb (length is) 1 (sym (length-map is (element_at (tree_at ss t p))) ∙ l))
kind_of_one ss t (Wrapped j p is) l b = cc

one_taken : (xs : List Tree) → length xs ≢ 0 → length (take 1 (drop 0 xs)) ≡ 1
one_taken [] h = absurd (h refl)
one_taken (x ∷ xs) h = refl

pub turn_fits : (ss : List Part) (t : Tree) (i n : ℕ) (r a b : Taken) (old mid new : Walk) → n ≡ length (run_at ss t r) → n ≢ 0 → run_at ss t a ≡ take 1 (drop 0 (run_at ss t r)) → Narrows r a → Narrows r b → Puts old mid (Turn i b ∷ []) → Puts mid new (Match i a ∷ []) → GoalFits ss t (Turn i r) → Fits ss t old → Fits ss t new
turn_fits ss t i n r a b old mid new e z g u v p q h f =
    let bare = u.fits ss t h.0 in
    let one : kind_at ss t a ≡ One = kind_of_one ss t a (ap length g ∙ one_taken (run_at ss t r) (λ l. z (e ∙ l))) (and_parts (is_bare a) (fits ss t a) bare).0 in
    put_one ss t mid new (Match i a) q (fits_bare ss t i a bare, λ y k l. h.1 y k (ap (λ j. lends (pat ss i) j y k) (sym one) ∙ l))
    (put_one ss t old mid (Turn i b) p (v.fits ss t h.0, h.1) f)

-- ---- elements

pub left_element : (ss : List Part) (t : Tree) (i : ℕ) (r : Taken) → (flags_at (part_at ss i)).orderless ≡ false → left_fits ss t i r ≡ true → element_fits ss t i r ≡ true
left_element ss t i Nothing o h = h
left_element ss t i (At p) o h = h
left_element ss t i (Slice p f n) o h = and_from (not (flags_at (part_at ss i)).orderless) (is_headed ss t i p) (ap not o) h
left_element ss t i (Picked p is) o h = h
left_element ss t i (Wrapped j p is) o h = h

pub element_left : (ss : List Part) (t : Tree) (i : ℕ) (r : Taken) → element_fits ss t i r ≡ true → left_fits ss t i r ≡ true
element_left ss t i Nothing h = h
element_left ss t i (At p) h = h
element_left ss t i (Slice p f n) h = (and_parts (not (flags_at (part_at ss i)).orderless) (is_headed ss t i p) h).1
element_left ss t i (Picked p is) h = h
element_left ss t i (Wrapped j p is) h = h

pub left_same : (ss : List Part) (t : Tree) (i j : ℕ) (r r' : Taken) → r' ≡ r → ElementsFit ss t i j r → ElementsFit ss t i j r'
left_same ss t i j r r' e h = subst (ElementsFit ss t i j) (sym e) h

serve_as : (ss : List Part) (i : ℕ) (ps qs : Pats) → ps ≡ qs → ElementsServe ss i ps → ElementsServe ss i qs
serve_as ss i ps qs e h = subst (ElementsServe ss i) e h

-- the element q, and those behind it
pub served : (ss : List Part) (t : Tree) (i j q next : ℕ) (r : Taken) → from_child ss i j ≡ also (pat ss q) (from_child ss i (j + 1)) → next ≡ j + 1 → ElementsFit ss t i j r → ElementsServe ss i (also (pat ss q) (from_child ss i next))
served ss t i j q next r e g h = serve_as ss i (from_child ss i j) (also (pat ss q) (from_child ss i next)) (e ∙ ap (λ z. also (pat ss q) (from_child ss i z)) (sym g)) h.1

abbrev own_kind : List Part → ℕ → ℕ → Purpose → Kind → Bool
own_kind ss i q x k = any_kind (flags_at (part_at ss i)) (stands_alone ss i) (stretches (site_at ss i) (pat ss q)) (λ j. lends (pat ss q) j x k)

abbrev others_kind : List Part → ℕ → Pats → Purpose → Kind → Bool
others_kind ss i ps x k = elements_lend (site_at ss i) (stands_alone ss i) ps x k

pub taken_fits : (ss : List Part) (t : Tree) (i next q : ℕ) (left r : Taken) (old mid new : Walk) → Puts old mid (Elements i next left ∷ []) → Puts mid new (Match q r ∷ []) → ElementServes ss t i q r → left_fits ss t i left ≡ true → ElementsServe ss i (also (pat ss q) (from_child ss i next)) → Fits ss t old → Fits ss t new
taken_fits ss t i next q left r old mid new p p' e l s f =
    put_one ss t mid new (Match q r) p' (e.0, λ x k c. s x k (or_left (own_kind ss i q x k) (others_kind ss i (from_child ss i next) x k) (e.1 x k c)))
    (put_one ss t old mid (Elements i next left) p (l, λ x k c. s x k (or_right (own_kind ss i q x k) (others_kind ss i (from_child ss i next) x k) c)) f)

-- the elements behind, where this one takes none
pub behind_fits : (ss : List Part) (t : Tree) (i j q next : ℕ) (left left' : Taken) (old new : Walk) → from_child ss i j ≡ also (pat ss q) (from_child ss i (j + 1)) → next ≡ j + 1 → left' ≡ left → Puts old new (Elements i next left' ∷ []) → ElementsFit ss t i j left → Fits ss t old → Fits ss t new
behind_fits ss t i j q next left left' old new e g y p h f =
    let s = served ss t i j q next left e g h in
    put_one ss t old new (Elements i next left') p (ap (left_fits ss t i) y ∙ h.0, λ x k c. s x k (or_right (own_kind ss i q x k) (others_kind ss i (from_child ss i next) x k) c)) f

name_lends : (p : Pat) (y : List ℕ) → Some y ≡ name_in p → lends p One (of_name y) One ≡ true
name_lends (named x q) y e =
    let k : y ≡ x = cc in
    or_left (is_it (of_name x) One (of_name y) One) (lends q One (of_name y) One) (ap (λ z. is_it (of_name x) One (of_name z) One) k ∙ it_refl (of_name x) One)
name_lends (tested a q) y e = or_right (is_it (of_test a) One (of_name y) One) (lends q One (of_name y) One) (name_lends q y e)
name_lends (hold q) y e = name_lends q y e
name_lends (exactly t) y e = cc
name_lends (blank c h) y e = cc
name_lends (optional d q) y e = cc
name_lends (alternatives qs) y e = cc
name_lends (repeated c q) y e = cc
name_lends (except c q) y e = cc
name_lends (nodes f h hp ps) y e = cc

absent_lends : (p : Pat) (y : List ℕ) → Some y ≡ name_of p → lends p One (of_name y) One ≡ true
absent_lends (optional d q) y e = name_lends q y e
absent_lends (exactly t) y e = cc
absent_lends (blank c h) y e = cc
absent_lends (named x q) y e = cc
absent_lends (tested a q) y e = cc
absent_lends (hold q) y e = cc
absent_lends (alternatives qs) y e = cc
absent_lends (repeated c q) y e = cc
absent_lends (except c q) y e = cc
absent_lends (nodes f h hp ps) y e = cc

pub default_fits : (ss : List Part) (t : Tree) (i j q n : ℕ) (left : Taken) (p : Place) → from_child ss i j ≡ also (pat ss q) (from_child ss i (j + 1)) → Some (name_at (part_at ss n)) ≡ name_of (pat ss q) → ElementsFit ss t i j left → GoalFits ss t (Bind n (At p))
default_fits ss t i j q n left p e g h =
    let y = name_at (part_at ss n) in
    let s = served ss t i j q (j + 1) left e refl h in
    s (of_name y) One (or_left (own_kind ss i q (of_name y) One) (others_kind ss i (from_child ss i (j + 1)) (of_name y) One)
    (any_one (flags_at (part_at ss i)) (stands_alone ss i) (stretches (site_at ss i) (pat ss q)) (λ z. lends (pat ss q) z (of_name y) One) (absent_lends (pat ss q) y g)))

-- ---- nodes

pub is_node : (ss : List Part) (i hp : ℕ) (f : Flags) (h : Tree) (xs : List ℕ) → site_at ss i ≡ record { head = h; flags = f } → inside ss i ≡ xs → pat ss i ≡ nodes f h (pat ss hp) (pats_of (pat ss) xs) → pat ss i ≡ nodes (flags_at (part_at ss i)) (head_at (part_at ss i)) (pat ss hp) (from_child ss i 0)
is_node ss i hp f h xs s x w = w ∙ (λ v. nodes (sym s v).flags (sym s v).head (pat ss hp) (pats_of (pat ss) (sym (ap (drop 0) x ∙ no_drop xs) v)))

pub node_serves : (ss : List Part) (i hp : ℕ) (j : Kind) → pat ss i ≡ nodes (flags_at (part_at ss i)) (head_at (part_at ss i)) (pat ss hp) (from_child ss i 0) → Serves ss (pat ss i) j → NodeServes ss i hp
node_serves ss i hp j w s = (
  λ x k l. s x k (ap (λ z. lends z j x k) w ∙ or_left (lends (pat ss hp) One x k) (others_kind ss i (from_child ss i 0) x k) l),
  λ x k l. s x k (ap (λ z. lends z j x k) w ∙ or_right (lends (pat ss hp) One x k) (others_kind ss i (from_child ss i 0) x k) l),
)

pub node_bare : (ss : List Part) (t : Tree) (i hp : ℕ) (r : Taken) → pat ss i ≡ nodes (flags_at (part_at ss i)) (head_at (part_at ss i)) (pat ss hp) (from_child ss i 0) → GoalFits ss t (Match i r) → is_bare r ≡ true
node_bare ss t i hp r w a = (and_parts (is_bare r) (fits ss t r) (bared ss t i r (λ y. ap (stretchable y) w) a)).0

pub node_alone : (ss : List Part) (t : Tree) (i hp : ℕ) (f : Flags) (h : Tree) (xs : List ℕ) (r r' : Taken) (b d : Bool) (old new : Walk) → site_at ss i ≡ record { head = h; flags = f } → inside ss i ≡ xs → pat ss i ≡ nodes f h (pat ss hp) (pats_of (pat ss) xs) → b ≡ (f.one_identity && any_optional (pats_of (pat ss) xs) && d) → b ≡ true → (is_bare r ≡ true → stands_alone ss i ≡ true → left_fits ss t i r' ≡ true) → Puts old new (Elements i 0 r' ∷ []) → GoalFits ss t (Match i r) → Fits ss t old → Fits ss t new
node_alone ss t i hp f h xs r r' b d old new s x w e g l p a q =
    let n = is_node ss i hp f h xs s x w in
    let o : stands_alone ss i ≡ true = (λ v. (s v).flags.one_identity && any_optional (pats_of (pat ss) ((ap (drop 0) x ∙ no_drop xs) v))) ∙ (and_parts (f.one_identity && any_optional (pats_of (pat ss) xs)) d (sym e ∙ g)).0 in
    put_one ss t old new (Elements i 0 r') p (l (node_bare ss t i hp r n a) o, (node_serves ss i hp (kind_at ss t r) n a.1).1) q

headed_place : (ss : List Part) (i : ℕ) (u g : Tree) (us : Trees) → node g us ≡ u → is_like ss i u ≡ true → (not (flags_at (part_at ss i)).flat || same (head_at (part_at ss i)) (child 0 u)) ≡ true
headed_place ss i u g us e h = (λ v. not (flags_at (part_at ss i)).flat || same (head_at (part_at ss i)) (child 0 (sym e v))) ∙ (λ v. not (flags_at (part_at ss i)).flat || same (head_at (part_at ss i)) (head_of (e v))) ∙ h

pub opened_fits : (ss : List Part) (t : Tree) (i hp n : ℕ) (p p' b : Place) (g u : Tree) (us : Trees) (old mid new : Walk) → node g us ≡ u → u ≡ tree_at ss t p → p' ≡ p → Puts old mid (Elements i 0 (Slice p' 0 n) ∷ []) → Puts mid new (Match hp (At b) ∷ []) → is_like ss i (tree_at ss t p) ≡ true → NodeServes ss i hp → Fits ss t old → Fits ss t new
opened_fits ss t i hp n p p' b g u us old mid new e x y q q' l s f =
    put_one ss t mid new (Match hp (At b)) q' (refl, s.0)
    (put_one ss t old mid (Elements i 0 (Slice p' 0 n)) q (ap (is_headed ss t i) y ∙ headed_place ss i (tree_at ss t p) g us (e ∙ x) l, s.1) f)

pub like_as : (ss : List Part) (i : ℕ) (u v : Tree) → u ≡ v → is_like ss i u ≡ true → is_like ss i v ≡ true
like_as ss i u v e h = ap (is_like ss i) (sym e) ∙ h

-- ---- marks

pub bound_fits : (ss : List Part) (t : Tree) (i : ℕ) (r r' : Taken) (old new : Walk) → r' ≡ r → Marks old new (Bound i r') → GoalFits ss t (Bind i r) → Fits ss t old → Fits ss t new
bound_fits ss t i r r' old new e m h f = m.fits ss t (ap (λ z. mark_fits ss t (Bound i z)) e ∙ h) f

pub tested_note_fits : (ss : List Part) (t : Tree) (i : ℕ) (r r' : Taken) (old new : Walk) → r' ≡ r → Marks old new (Noted i r') → GoalFits ss t (Note i r) → Fits ss t old → Fits ss t new
tested_note_fits ss t i r r' old new e m h f = m.fits ss t (ap (λ z. mark_fits ss t (Noted i z)) e ∙ h) f

pub node_opened : (ss : List Part) (t : Tree) (i hp n : ℕ) (f : Flags) (h : Tree) (xs : List ℕ) (ys : List Tree) (r : Taken) (d : Bool) (old new : Walk) → site_at ss i ≡ record { head = h; flags = f } → inside ss i ≡ xs → pat ss i ≡ nodes f h (pat ss hp) (pats_of (pat ss) xs) → d ≡ all_have (Some h) ys → ys ≡ run_at ss t r → n ≡ length (run_at ss t r) → n ≡ 1 → (not f.flat || d) ≡ true
    → ((u : Tree) → run_at ss t r ≡ u ∷ [] → is_bare r ≡ true → is_like ss i u ≡ true → NodeServes ss i hp → Fits ss t old → Fits ss t new)
    → GoalFits ss t (Match i r) → Fits ss t old → Fits ss t new
node_opened ss t i hp n f h xs ys r d old new s x w e y l m z k a q =
    let o = the_one (run_at ss t r) (sym l ∙ m) in
    let w' = is_node ss i hp f h xs s x w in
    let like : is_like ss i o.0 ≡ true =
    (λ v. not (s v).flags.flat || same (s v).head (head_of o.0))
    ∙ ap (λ c. not f.flat || c) (sym (e ∙ ap (all_have (Some h)) (y ∙ o.1) ∙ and-true (same h (head_of o.0)))) ∙ z in
    k o.0 o.1 (node_bare ss t i hp r w' a) like (node_serves ss i hp (kind_at ss t r) w' a.1) q

-- ---- the beginning

pub begins_fit : (ss : List Part) (t : Tree) (old new : Walk) (i : ℕ) (r : Taken) → IsEmpty old → Keeps old new (Match i r) → i ≡ length ss - 1 → r ≡ At (record { root = None; steps = [] }) → Fits ss t new
begins_fit ss t old new i r h k e f =
    k.fits ss t (subst (MatchFits ss t i) (sym f) (refl, λ x y l. ap (λ z. lends (pat ss z) One x y) (sym e) ∙ l)) (h.fits ss t)
