-- A list of proper trees in ascending order, put together as it may be, is the sorted one.
use Rattle.std.proofs.Common.{◌≡◌, ◌≢◌, ℕ, zero, suc, ◌<◌, ◌≤◌, Bool, true, false, List, [], ◌∷◌, ◌⊎◌, inl, inr, length, get_or, map, take, ◌+◌, add-one, refl, sym, ap, ◌∙◌, arith}
use Rattle.std.proofs.lemmas.List.Sorted.{IsPermutation-keeps, sorted_far}
use Rattle.std.specs.Cmp.{IsStrictWeakOrder}
use Rattle.std.specs.List.{AllByRecursion, swap, slice_set}
use Rattle.std.specs.List.Sorted.{IsPermutation, IsSortedBy}
use Rattle.std.specs.Ordering.{is_lt, ordering_reverse}
use Rattle.std.specs.declared.cmp.Ordering.{Ordering}
use Rattle.std.specs.declared.cmp.Ordering.TheVariants.{Less, Equal, Greater}
use Rattle.wl_expr.specs.Order.{canonical_order}
use Rattle.wl_expr.specs.Proper.{IsProper, AllProper}
use Rattle.wl_expr.specs.Sorted.{placed, sorted_on, sorted}
use Rattle.wl_expr.specs.Stamped.{Stamped, plain}
use Rattle.wl_expr.specs.Tree.{Tree}
use Rattle.wl_expr.proofs.CanonicalOrder.{canonical_reverse, canonical_transitive, canonical_tells_apart}
use Rattle.wl_expr.proofs.Normal.{normal, normal_proper, normal_same}

-- a comes before b
abbrev pub before : Tree → Tree → Bool
before a b = is_lt (canonical_order a b)

-- ---- the order of proper trees, by that test

less_back : (x y : Ordering) → y ≡ ordering_reverse x → is_lt x ≡ true → is_lt y ≡ false
less_back Less y e t = rw e refl
less_back Equal y e t = cc
less_back Greater y e t = cc

not_less : (x y : Ordering) → y ≡ ordering_reverse x → is_lt x ≡ false → y ≢ Greater
not_less Less y e t = λ g. cc
not_less Equal y e t = λ g. cc
not_less Greater y e t = λ g. cc

not_greater : (x y : Ordering) → y ≡ ordering_reverse x → y ≢ Greater → is_lt x ≡ false
not_greater Less y e n = absurd (n e)
not_greater Equal y e n = refl
not_greater Greater y e n = refl

neither : (x y : Ordering) → y ≡ ordering_reverse x → is_lt x ≡ false → is_lt y ≡ false → x ≡ Equal
neither Less y e p q = cc
neither Equal y e p q = refl
neither Greater y e p q = cc

pub one_way : (a b : Tree) → before a b ≡ true → before b a ≡ false
one_way a b t = less_back (canonical_order a b) (canonical_order b a) (canonical_reverse a b) t

pub chain : (a b c : Tree) → IsProper a → IsProper b → IsProper c → before a b ≡ false → before b c ≡ false → before a c ≡ false
chain a b c pa pb pc p q =
    not_greater (canonical_order a c) (canonical_order c a) (canonical_reverse a c)
    (canonical_transitive c b a pc pb pa (not_less (canonical_order b c) (canonical_order c b) (canonical_reverse b c) q) (not_less (canonical_order a b) (canonical_order b a) (canonical_reverse a b) p))

pub one_tree : (a b : Tree) → IsProper a → IsProper b → before a b ≡ false → before b a ≡ false → a ≡ b
one_tree a b pa pb p q = (canonical_tells_apart a b pa pb).0 (neither (canonical_order a b) (canonical_order b a) (canonical_reverse a b) p q)

either : (b : Bool) → (b ≡ true) ⊎ (b ≡ false)
either true = inl refl
either false = inr refl

-- ---- a tree in its place

placed-before : (t u : Tree) (us : List Tree) → before t u ≡ true → placed t (u ∷ us) ≡ t ∷ u ∷ us
placed-before t u us e = ap (λ (b : Bool). elim b [ true ↦ t ∷ u ∷ us | false ↦ u ∷ placed t us ]) e

placed-behind : (t u : Tree) (us : List Tree) → before t u ≡ false → placed t (u ∷ us) ≡ u ∷ placed t us
placed-behind t u us e = ap (λ (b : Bool). elim b [ true ↦ t ∷ u ∷ us | false ↦ u ∷ placed t us ]) e

placed_proper : (t : Tree) (us : List Tree) → IsProper t → AllProper us → AllProper (placed t us)
placed_proper t [] p ps = (p, tt)
placed_proper t (u ∷ us) p ps = go (before t u) (placed_proper t us p ps.1)
  where
    go : (b : Bool) → AllProper (placed t us) → AllProper (elim b [ true ↦ t ∷ u ∷ us | false ↦ u ∷ placed t us ])
    go true qs = (p, ps)
    go false qs = (ps.0, qs)

-- two trees, each of which would stand in front
two_in_front : (a b : Tree) (us : List Tree) → IsProper a → IsProper b → placed a us ≡ a ∷ us → placed b us ≡ b ∷ us → placed a (b ∷ us) ≡ placed b (a ∷ us)
two_in_front a b us pa pb e f =
    elim (either (before a b)) [
      | inl t ↦ placed-before a b us t ∙ sym (placed-behind b a us (one_way a b t) ∙ ap (λ vs. a ∷ vs) f)
      | inr n ↦ elim (either (before b a)) [
        | inl t ↦ placed-behind a b us n ∙ ap (λ vs. b ∷ vs) e ∙ sym (placed-before b a us t)
        | inr m ↦ (let same = one_tree a b pa pb n m in λ i. placed (same i) (sym same i ∷ us))
      ]
    ]

pub placed-placed : (a b : Tree) (us : List Tree) → IsProper a → IsProper b → AllProper us → placed a (placed b us) ≡ placed b (placed a us)
placed-placed a b [] pa pb ps = two_in_front a b [] pa pb refl refl
placed-placed a b (u ∷ us) pa pb ps =
    elim (either (before a u)) [
      | inl s ↦ elim (either (before b u)) [
        | inl t ↦ ap (placed a) (placed-before b u us t) ∙ two_in_front a b (u ∷ us) pa pb (placed-before a u us s) (placed-before b u us t) ∙ sym (ap (placed b) (placed-before a u us s))
        | inr t ↦ sym (a_then_b b a t s pb pa)
      ]
      | inr s ↦ elim (either (before b u)) [
        | inl t ↦ a_then_b a b s t pa pb
        | inr t ↦ ap (placed a) (placed-behind b u us t) ∙ placed-behind a u (placed b us) s ∙ ap (λ vs. u ∷ vs) (placed-placed a b us pa pb ps.1) ∙ sym (ap (placed b) (placed-behind a u us s) ∙ placed-behind b u (placed a us) t)
      ]
    ]
  where
    -- c stands in front of u, and a behind it
    a_then_b : (a c : Tree) → before a u ≡ false → before c u ≡ true → IsProper a → IsProper c → placed a (placed c (u ∷ us)) ≡ placed c (placed a (u ∷ us))
    a_then_b a c s t p q =
        ap (placed a) (placed-before c u us t) ∙ placed-behind a c (u ∷ us) (chain a u c p ps.0 q s (one_way c u t)) ∙ ap (λ vs. c ∷ vs) (placed-behind a u us s)
        ∙ sym (ap (placed c) (placed-behind a u us s) ∙ placed-before c u (placed a us) t)

-- ---- any order of the elements comes to the same

sorted_on-placed : (t : Tree) (ds us : List Tree) → IsProper t → AllProper ds → AllProper us → sorted_on (placed t ds) us ≡ placed t (sorted_on ds us)
sorted_on-placed t ds [] p qs ps = refl
sorted_on-placed t ds (u ∷ us) p qs ps =
    ap (λ vs. sorted_on vs us) (placed-placed u t ds ps.0 p qs) ∙ sorted_on-placed t (placed u ds) us p (placed_proper u ds ps.0 qs) ps.1

-- an element taken out and another put into its place
sorted_on-set : (ds us : List Tree) (i : ℕ) (y d : Tree) → i < length us → IsProper y → AllProper ds → AllProper us → sorted_on (placed (get_or us i d) ds) (slice_set us i y) ≡ sorted_on (placed y ds) us
sorted_on-set ds [] i y d l p qs ps = absurd (omega arith)
sorted_on-set ds (u ∷ us) zero y d l p qs ps = ap (λ vs. sorted_on vs us) (placed-placed y u ds p ps.0 qs)
sorted_on-set ds (u ∷ us) (suc i) y d l p qs ps =
    let x = get_or us i d in
    let h : i < length us = omega arith in
    ap (λ vs. sorted_on vs (slice_set us i y)) (placed-placed u x ds ps.0 (proper_at us i d h ps.1) qs)
    ∙ sorted_on-set (placed u ds) us i y d h p (placed_proper u ds ps.0 qs) ps.1
    ∙ ap (λ vs. sorted_on vs us) (placed-placed y u ds p ps.0 qs)
  where
    proper_at : (us : List Tree) (i : ℕ) (d : Tree) → i < length us → AllProper us → IsProper (get_or us i d)
    proper_at [] i d l ps = absurd (omega arith)
    proper_at (u ∷ us) zero d l ps = ps.0
    proper_at (u ∷ us) (suc i) d l ps = proper_at us i d (omega arith) ps.1

sorted_on-swap : (ds us : List Tree) (i j : ℕ) (d : Tree) → i < length us → j < length us → AllProper ds → AllProper us → sorted_on ds (slice_set (slice_set us i (get_or us j d)) j (get_or us i d)) ≡ sorted_on ds us
sorted_on-swap ds [] i j d l m qs ps = absurd (omega arith)
sorted_on-swap ds (u ∷ us) zero zero d l m qs ps = refl
sorted_on-swap ds (u ∷ us) zero (suc j) d l m qs ps = sorted_on-set ds us j u d (omega arith) ps.0 qs ps.1
sorted_on-swap ds (u ∷ us) (suc i) zero d l m qs ps = sorted_on-set ds us i u d (omega arith) ps.0 qs ps.1
sorted_on-swap ds (u ∷ us) (suc i) (suc j) d l m qs ps = sorted_on-swap (placed u ds) us i j d (omega arith) (omega arith) (placed_proper u ds ps.0 qs) ps.1

set_proper : (us : List Tree) (i : ℕ) (y : Tree) → IsProper y → AllProper us → AllProper (slice_set us i y)
set_proper [] i y p ps = tt
set_proper (u ∷ us) zero y p ps = (p, ps.1)
set_proper (u ∷ us) (suc i) y p ps = (ps.0, set_proper us i y p ps.1)

place_proper : (us : List Tree) (i : ℕ) (d : Tree) → IsProper d → AllProper us → IsProper (get_or us i d)
place_proper [] i d p ps = p
place_proper (u ∷ us) zero d p ps = ps.0
place_proper (u ∷ us) (suc i) d p ps = place_proper us i d p ps.1

swap_keeps : (ts us : List Tree) (i j : ℕ) → i < length us → j < length us → AllProper us × (sorted us ≡ sorted ts) → AllProper (swap us i j) × (sorted (swap us i j) ≡ sorted ts)
swap_keeps ts [] i j l m h = h
swap_keeps ts (u ∷ us) i j l m h = (
  set_proper (slice_set (u ∷ us) i (get_or (u ∷ us) j u)) j (get_or (u ∷ us) i u) (place_proper (u ∷ us) i u h.0.0 h.0) (set_proper (u ∷ us) i (get_or (u ∷ us) j u) (place_proper (u ∷ us) j u h.0.0 h.0) h.0),
  sorted_on-swap [] (u ∷ us) i j u l m tt h.0 ∙ h.1,
)

pub sorted-permutation : (ts us : List Tree) → AllProper ts → IsPermutation ts us → AllProper us × (sorted us ≡ sorted ts)
sorted-permutation ts us ps p = IsPermutation-keeps ts (λ vs. AllProper vs × (sorted vs ≡ sorted ts)) (ps, refl) (swap_keeps ts) us p

-- ---- an ascending list is sorted

abbrev pub Ascends : List Tree → Type 0
Ascends [] = Unit {0}
Ascends (t ∷ ts) = AllByRecursion (λ u. before u t ≡ false) ts × Ascends ts

placed_in_front : (t : Tree) (us : List Tree) → IsProper t → AllProper us → AllByRecursion (λ u. before u t ≡ false) us → placed t us ≡ t ∷ us
placed_in_front t [] p ps h = refl
placed_in_front t (u ∷ us) p ps h =
    elim (either (before t u)) [
      | inl s ↦ placed-before t u us s
      | inr s ↦ (let same = one_tree t u p ps.0 s h.0 in placed-behind t u us s ∙ ap (λ vs. u ∷ vs) (placed_in_front t us p ps.1 h.1) ∙ λ i. sym same i ∷ same i ∷ us)
    ]

pub sorted-ascending : (ts : List Tree) → AllProper ts → Ascends ts → sorted ts ≡ ts
sorted-ascending [] ps a = refl
sorted-ascending (t ∷ ts) ps a = sorted_on-placed t [] ts ps.0 tt ps.1 ∙ ap (placed t) (sorted-ascending ts ps.1 a.1) ∙ placed_in_front t ts ps.0 ps.1 a.0

-- ---- what a sort of expressions gives

-- the order of all trees that the sort is asked for
abbrev pub sort_order : Stamped → Stamped → Bool
sort_order x y = before (normal (plain x)) (normal (plain y))

pub sort_order_is_weak : IsStrictWeakOrder sort_order
sort_order_is_weak = record {
  one_way = λ x y. one_way (normal (plain x)) (normal (plain y));
  chain = λ x y z. chain (normal (plain x)) (normal (plain y)) (normal (plain z)) (normal_proper (plain x)) (normal_proper (plain y)) (normal_proper (plain z));
}

pub before_is_sort_order : (x y : Stamped) → IsProper (plain x) → IsProper (plain y) → before (plain x) (plain y) ≡ sort_order x y
before_is_sort_order x y p q i = before (sym (normal_same (plain x) p) i) (sym (normal_same (plain y) q) i)

abbrev AscendsFar : List Stamped → Type 0
AscendsFar xs = (i j : ℕ) (d : Stamped) → i ≤ j → j < length xs → sort_order (get_or xs j d) (get_or xs i d) ≡ false

none_before : (x : Stamped) (ys : List Stamped) → IsProper (plain x) → AllProper (map plain ys) → ((j : ℕ) → j < length ys → sort_order (get_or ys j x) x ≡ false) → AllByRecursion (λ u. before u (plain x) ≡ false) (map plain ys)
none_before x [] p ps h = tt
none_before x (y ∷ ys) p ps h = (before_is_sort_order y x ps.0 p ∙ h 0 (omega arith), none_before x ys p ps.1 (λ j l. h (suc j) (omega arith)))

ascends : (xs : List Stamped) → AllProper (map plain xs) → AscendsFar xs → Ascends (map plain xs)
ascends [] ps h = tt
ascends (x ∷ xs) ps h = (none_before x xs ps.0 ps.1 (λ j l. h 0 (suc j) x (omega arith) (omega arith)), ascends xs ps.1 (λ i j d m l. h (suc i) (suc j) d (omega arith) (omega arith)))

pub sorted_by_order : (xs ys : List Stamped) → AllProper (map plain xs) → IsPermutation (map plain xs) (map plain ys) → IsSortedBy sort_order ys → map plain ys ≡ sorted (map plain xs)
sorted_by_order xs ys ps p up =
    let q = sorted-permutation (map plain xs) (map plain ys) ps p in
    sym (sorted-ascending (map plain ys) q.0 (ascends ys q.0 (λ i j d. sorted_far sort_order sort_order_is_weak ys up i j d))) ∙ q.1

-- one more
pub all_proper_more : (xs : List Stamped) (i : ℕ) (d : Stamped) → i < length xs → AllProper (map plain (take i xs)) → IsProper (plain (get_or xs i d)) → AllProper (map plain (take (i + 1) xs))
all_proper_more [] i d l ps p = absurd (omega arith)
all_proper_more (x ∷ xs) zero d l ps p = (p, tt)
all_proper_more (x ∷ xs) (suc i) d l ps p = rw add-one (ps.0, rw add-one at (all_proper_more xs i d (omega arith) ps.1 p))
