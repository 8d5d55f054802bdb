-- Elements that are made one after the other.
use Rattle.std.proofs.Common.{◌≡◌, ◌<◌, ◌+◌, ℕ, zero, suc, ◌-◌, List, [], ◌∷◌, ◌++◌, length, get_or, drop, map, append_assoc, sym, ap, ◌∙◌, subst, arith}
use Rattle.std.proofs.lemmas.List.{map-append}
use Rattle.std.proofs.lemmas.List.Elements.{All-push}
use Rattle.wl_expr.proofs.Sizes.{weight_of-append}
use Rattle.wl_expr.specs.Passed.{IsFrom}
use Rattle.wl_expr.specs.Size.{weight_of}
use Rattle.wl_expr.specs.Stamped.{Stamped, plain}
use Rattle.wl_expr.specs.Tree.{Tree, IsWithinLimits, AreSmall, from_list, weight}
use Rattle.wl_lists.specs.Answers.{AllFrom, trees}
use Rattle.wl_lists.specs.Tabulated.{tabulated}
use Rattle.wl_lists.proofs.Splits.{next_of}

small_among : (before : List Tree) (t : Tree) (behind : List Tree) → AreSmall (from_list (before ++ t ∷ behind)) → IsWithinLimits t
small_among [] t behind s = record { light = omega (arith, s.light); shallow = omega (arith, s.shallow) }
small_among (u ∷ us) t behind s = small_among us t behind (record { light = omega (arith, s.light); shallow = omega (arith, s.shallow) })

-- one of them doesn't fit
pub large_among : (all before : List Tree) (t : Tree) (behind : List Tree) → all ≡ before ++ t ∷ behind → ¬ IsWithinLimits t → ¬ AreSmall (from_list all)
large_among all before t behind e n s = n (small_among before t behind (subst (λ ts. AreSmall (from_list ts)) e s))

-- one more at the end
pub one_more : (before after : List Stamped) (e : Stamped) (t : Tree) (behind : List Tree) → after ≡ before ++ e ∷ [] → plain e ≡ t → trees before ++ t ∷ behind ≡ trees after ++ behind
one_more before after e t behind a m =
    ap (λ u. trees before ++ u ∷ behind) (sym m)
    ∙ sym (ap (λ us. trees us ++ behind) a ∙ ap (λ ts. ts ++ behind) (map-append plain before (e ∷ [])) ∙ append_assoc (trees before) (plain e ∷ []) behind)

-- a step of a loop over xs, which makes g of each
pub next_made : (g : Tree → Tree) (xs before after : List Stamped) (i : ℕ) (x e : Stamped) → map g (trees xs) ≡ trees before ++ map g (trees (drop i xs)) → i < length xs → x ≡ get_or xs i x
    → after ≡ before ++ e ∷ [] → plain e ≡ g (plain x) → map g (trees xs) ≡ trees after ++ map g (trees (drop (i + 1) xs))
next_made g xs before after i x e v l p a m =
    v ∙ ap (λ (us : List Stamped). trees before ++ map g (trees us)) (next_of xs i x l p) ∙ one_more before after e (g (plain x)) (map g (trees (drop (i + 1) xs))) a m

pub next_large : (g : Tree → Tree) (xs before : List Stamped) (i : ℕ) (x : Stamped) → map g (trees xs) ≡ trees before ++ map g (trees (drop i xs)) → i < length xs → x ≡ get_or xs i x
    → ¬ IsWithinLimits (g (plain x)) → ¬ AreSmall (from_list (map g (trees xs)))
next_large g xs before i x v l p n =
    large_among (map g (trees xs)) (trees before) (g (plain x)) (map g (trees (drop (i + 1) xs))) (v ∙ ap (λ (us : List Stamped). trees before ++ map g (trees us)) (next_of xs i x l p)) n

pub next_from : (ms before after : List Stamped) (e : Stamped) → AllFrom ms before → IsFrom ms e → after ≡ before ++ e ∷ [] → AllFrom ms after
next_from ms before after e h f a = subst (AllFrom ms) (sym a) (All-push (IsFrom ms) before e h f)

-- ---- by their places

next_tabulated : (g : ℕ → Tree) (k n : ℕ) → 0 < n → tabulated g k n ≡ g k ∷ tabulated g (k + 1) (n - 1)
next_tabulated g k zero l = absurd (omega arith)
next_tabulated g k (suc n) l = let e : n ≡ suc n - 1 = omega arith in ap (λ m. g k ∷ tabulated g (k + 1) m) e

pub place_made : (g : ℕ → Tree) (all : List Tree) (before after : List Stamped) (first i n : ℕ) (e : Stamped) → all ≡ trees before ++ tabulated g (first + i) (n - i) → i < n
    → after ≡ before ++ e ∷ [] → plain e ≡ g (first + i) → all ≡ trees after ++ tabulated g (first + (i + 1)) (n - (i + 1))
place_made g all before after first i n e v l a m =
    let p : first + i + 1 ≡ first + (i + 1) = omega arith in
    let q : n - i - 1 ≡ n - (i + 1) = omega arith in
    v ∙ ap (λ (us : List Tree). trees before ++ us) (next_tabulated g (first + i) (n - i) (omega arith)) ∙ one_more before after e (g (first + i)) (tabulated g (first + i + 1) (n - i - 1)) a m
    ∙ ap (λ k. trees after ++ tabulated g k (n - i - 1)) p ∙ ap (λ k. trees after ++ tabulated g (first + (i + 1)) k) q

pub place_large : (g : ℕ → Tree) (all : List Tree) (before : List Stamped) (first i n : ℕ) → all ≡ trees before ++ tabulated g (first + i) (n - i) → i < n → ¬ IsWithinLimits (g (first + i)) → ¬ AreSmall (from_list all)
place_large g all before first i n v l w =
    large_among all (trees before) (g (first + i)) (tabulated g (first + i + 1) (n - i - 1)) (v ∙ ap (λ (us : List Tree). trees before ++ us) (next_tabulated g (first + i) (n - i) (omega arith))) w

-- ---- of other values, as characters

mapped_next : {X : Type 0} (g : X → Tree) (xs : List X) (i : ℕ) (x : X) → i < length xs → x ≡ get_or xs i x → map g (drop i xs) ≡ g x ∷ map g (drop (i + 1) xs)
mapped_next g xs i x l p = ap (map g) (next_of xs i x l p)

pub value_made : {X : Type 0} (g : X → Tree) (xs : List X) (before after : List Stamped) (i : ℕ) (x : X) (e : Stamped) → map g xs ≡ trees before ++ map g (drop i xs) → i < length xs → x ≡ get_or xs i x
    → after ≡ before ++ e ∷ [] → plain e ≡ g x → map g xs ≡ trees after ++ map g (drop (i + 1) xs)
value_made g xs before after i x e v l p a m =
    v ∙ ap (λ (us : List Tree). trees before ++ us) (mapped_next g xs i x l p) ∙ one_more before after e (g x) (map g (drop (i + 1) xs)) a m

pub value_large : {X : Type 0} (g : X → Tree) (xs : List X) (before : List Stamped) (i : ℕ) (x : X) → map g xs ≡ trees before ++ map g (drop i xs) → i < length xs → x ≡ get_or xs i x
    → ¬ IsWithinLimits (g x) → ¬ AreSmall (from_list (map g xs))
value_large g xs before i x v l p n =
    large_among (map g xs) (trees before) (g x) (map g (drop (i + 1) xs)) (v ∙ ap (λ (us : List Tree). trees before ++ us) (mapped_next g xs i x l p)) n

-- ---- by their weight

pub heavy_among : (all before : List Tree) (t : Tree) (behind : List Tree) → all ≡ before ++ t ∷ behind → 4000000 < weight_of before + weight t → ¬ AreSmall (from_list all)
heavy_among all before t behind e w s =
    let u = weight_of-append before (t ∷ behind) in
    let small : AreSmall (from_list (before ++ t ∷ behind)) = subst (λ ts. AreSmall (from_list ts)) e s in
    absurd (omega (arith, w, u, small.light))

pub next_heavy : (g : Tree → Tree) (xs before : List Stamped) (i v w : ℕ) (x e : Stamped) → map g (trees xs) ≡ trees before ++ map g (trees (drop i xs)) → i < length xs → x ≡ get_or xs i x
    → plain e ≡ g (plain x) → v ≡ weight_of (trees before) → w ≡ weight (plain e) → 4000000 < v + w → ¬ AreSmall (from_list (map g (trees xs)))
next_heavy g xs before i v w x e m l p q a b h =
    let heavier : w ≡ weight (g (plain x)) = b ∙ ap weight q in
    heavy_among (map g (trees xs)) (trees before) (g (plain x)) (map g (trees (drop (i + 1) xs))) (m ∙ ap (λ (us : List Stamped). trees before ++ map g (trees us)) (next_of xs i x l p)) (omega (arith, h, a, heavier))

pub next_weighed : (before after : List Stamped) (v w : ℕ) (e : Stamped) → after ≡ before ++ e ∷ [] → v ≡ weight_of (trees before) → w ≡ weight (plain e) → v + w ≡ weight_of (trees after)
next_weighed before after v w e a p q =
    let t : trees after ≡ trees before ++ plain e ∷ [] = ap trees a ∙ map-append plain before (e ∷ []) in
    let s : weight_of (trees after) ≡ weight_of (trees before) + weight_of (plain e ∷ []) = ap weight_of t ∙ weight_of-append (trees before) (plain e ∷ []) in
    omega (arith, s, p, q)
