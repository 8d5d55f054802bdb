-- Nodes that are made one after the other.
use Rattle.std.proofs.Common.{◌≡◌, ◌<◌, ◌+◌, ℕ, zero, suc, ◌-◌, List, [], ◌∷◌, ◌++◌, length, get_or, drop, map, append_assoc, sym, ap, ◌∙◌, subst, arith}
use Rattle.std.proofs.lemmas.List.{map-append}
use Rattle.std.proofs.lemmas.List.Elements.{All-push}
use Rattle.wl_expr.specs.Passed.{IsFrom}
use Rattle.wl_expr.specs.Stamped.{Stamped, plain}
use Rattle.wl_expr.specs.Tree.{Tree, IsWithinLimits, AreSmall, from_list, weight, weights}
use Rattle.wl_expr.specs.Words.{applied}
use Rattle.wl_shape.specs.Answers.{AllFrom, trees}
use Rattle.wl_shape.specs.Shape.{threads, corresponding}
use Rattle.wl_shape.proofs.Splits.{next_of}

small_among : (before : List Tree) (t : Tree) (behind : List Tree) → AreSmall (from_list (before ++ t ∷ behind)) → IsWithinLimits t
small_among [] t behind s = record { light = omega (arith, s.light); shallow = omega (arith, s.shallow) }
small_among (u ∷ us) t behind s = small_among us t behind (record { light = omega (arith, s.light); shallow = omega (arith, s.shallow) })

light_up_to : (before : List Tree) (t : Tree) (behind : List Tree) → AreSmall (from_list (before ++ t ∷ behind)) → weights (from_list before) + weight t < 4000001
light_up_to before t behind s = omega (arith, added before, s.light)
  where
    added : (us : List Tree) → weights (from_list us) + weight t < weights (from_list (us ++ t ∷ behind)) + 1
    added [] = omega arith
    added (u ∷ us) = omega (arith, added us)

-- one more at the end
pub one_more : (before after : List Stamped) (e : Stamped) (t : Tree) (behind : List Tree) → after ≡ before ++ e ∷ [] → plain e ≡ t → trees before ++ t ∷ behind ≡ trees after ++ behind
one_more before after e t behind a m =
    ap (λ u. trees before ++ u ∷ behind) (sym m)
    ∙ sym (ap (λ us. trees us ++ behind) a ∙ ap (λ ts. ts ++ behind) (map-append plain before (e ∷ [])) ∙ append_assoc (trees before) (plain e ∷ []) behind)

-- a step of a loop over xs, which makes g of each
pub next_made : (g : Tree → Tree) (xs before after : List Stamped) (i : ℕ) (x e : Stamped) → map g (trees xs) ≡ trees before ++ map g (trees (drop i xs)) → i < length xs → x ≡ get_or xs i x
    → after ≡ before ++ e ∷ [] → plain e ≡ g (plain x) → map g (trees xs) ≡ trees after ++ map g (trees (drop (i + 1) xs))
next_made g xs before after i x e v l p a m =
    v ∙ ap (λ (us : List Stamped). trees before ++ map g (trees us)) (next_of xs i x l p) ∙ one_more before after e (g (plain x)) (map g (trees (drop (i + 1) xs))) a m

pub next_from : (ms before after : List Stamped) (e : Stamped) → AllFrom ms before → IsFrom ms e → after ≡ before ++ e ∷ [] → AllFrom ms after
next_from ms before after e h f a = subst (AllFrom ms) (sym a) (All-push (IsFrom ms) before e h f)

-- ---- the nodes

-- the k-th
abbrev pub node_tree : Tree → List Tree → ℕ → Tree
node_tree h es k = applied h (map (corresponding k) es)

next_threads : (h : Tree) (es : List Tree) (k n : ℕ) → 0 < n → threads h es k n ≡ node_tree h es k ∷ threads h es (k + 1) (n - 1)
next_threads h es k zero l = absurd (omega arith)
next_threads h es k (suc n) l = let e : n ≡ suc n - 1 = omega arith in ap (λ m. node_tree h es k ∷ threads h es (k + 1) m) e

-- those before the k-th, it, and those behind it
at_place : (h : Tree) (es all : List Tree) (before : List Stamped) (k n : ℕ) → all ≡ trees before ++ threads h es k (n - k) → k < n → all ≡ trees before ++ node_tree h es k ∷ threads h es (k + 1) (n - (k + 1))
at_place h es all before k n v l =
    let q : n - k - 1 ≡ n - (k + 1) = omega arith in
    v ∙ ap (λ (us : List Tree). trees before ++ us) (next_threads h es k (n - k) (omega arith)) ∙ ap (λ m. trees before ++ node_tree h es k ∷ threads h es (k + 1) m) q

pub thread_made : (h : Tree) (es all : List Tree) (before after : List Stamped) (k n : ℕ) (e : Stamped) → all ≡ trees before ++ threads h es k (n - k) → k < n
    → after ≡ before ++ e ∷ [] → plain e ≡ node_tree h es k → all ≡ trees after ++ threads h es (k + 1) (n - (k + 1))
thread_made h es all before after k n e v l a m = at_place h es all before k n v l ∙ one_more before after e (node_tree h es k) (threads h es (k + 1) (n - (k + 1))) a m

pub thread_large : (h : Tree) (es all : List Tree) (before : List Stamped) (k n : ℕ) → all ≡ trees before ++ threads h es k (n - k) → k < n → ¬ IsWithinLimits (node_tree h es k) → ¬ AreSmall (from_list all)
thread_large h es all before k n v l w s =
    w (small_among (trees before) (node_tree h es k) (threads h es (k + 1) (n - (k + 1))) (subst (λ ts. AreSmall (from_list ts)) (at_place h es all before k n v l) s))

pub threads_heavy : (h : Tree) (es all : List Tree) (before : List Stamped) (k n : ℕ) (e : Stamped) → all ≡ trees before ++ threads h es k (n - k) → k < n → plain e ≡ node_tree h es k
    → 4000000 < weights (from_list (trees before)) + weight (plain e) → ¬ AreSmall (from_list all)
threads_heavy h es all before k n e v l m w s =
    omega (arith, w, ap weight m, light_up_to (trees before) (node_tree h es k) (threads h es (k + 1) (n - (k + 1))) (subst (λ ts. AreSmall (from_list ts)) (at_place h es all before k n v l) s))

pub weights_push : (before : List Stamped) (e : Stamped) → weights (from_list (trees (before ++ e ∷ []))) ≡ weights (from_list (trees before)) + weight (plain e)
weights_push [] e = omega arith
weights_push (t ∷ ts) e = omega (arith, weights_push ts e)
