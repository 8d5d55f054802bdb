-- Lists of indices with each index once.
use Rattle.std.proofs.Common.{◌≡◌, ◌+◌, max, Bool, true, false, ◌||◌, true≢false, List, [], ◌∷◌, ◌++◌, map, Option, Some, None, refl, sym, ap, ◌∙◌, subst, arith}
use Rattle.std.specs.Prelude.{codes}
use Rattle.wl_expr.proofs.Sizes.{no_larger_fits, no_larger_node, weight_of-append, depth_of-append}
use Rattle.wl_expr.specs.Same.{first_of_each, is_among, same, same_decides}
use Rattle.wl_expr.specs.Size.{weight_of, depth_of, AreNoLarger}
use Rattle.wl_expr.specs.Tree.{Tree, IsWithinLimits, num, text, symbol, node, to_list, from_list, to_list_from_list}
use Rattle.wl_expr.specs.Words.{applied, elements, is_list, is_the}
use Rattle.wl_lists.specs.Nodes.{node_of}
use Rattle.wl_lists.specs.Parts.{Failure, missing, no_index, before, failure, fails_among, fails_at, fails_in}
use Rattle.wl_lists.specs.PartsInside.{once}
use Rattle.wl_lists.proofs.Rows.{seen_node}

firsts_no_larger : (met ts : List Tree) → AreNoLarger (weight_of met + weight_of ts) (max (depth_of met) (depth_of ts)) (first_of_each met ts)
firsts_no_larger met [] = record { light = omega arith; shallow = omega arith }
firsts_no_larger met (t ∷ ts) =
    let more = firsts_no_larger (met ++ t ∷ []) ts in
    let w = weight_of-append met (t ∷ []) in
    let d = depth_of-append met (t ∷ []) in
    let less = firsts_no_larger met ts in
    go (is_among t met) record { light = omega (arith, more.light, w); shallow = omega (arith, more.shallow, d) }
    record { light = omega (arith, less.light); shallow = omega (arith, less.shallow) }
  where
    go : (b : Bool) → AreNoLarger (weight_of met + weight_of (t ∷ ts)) (max (depth_of met) (depth_of (t ∷ ts))) (first_of_each (met ++ t ∷ []) ts)
        → AreNoLarger (weight_of met + weight_of (t ∷ ts)) (max (depth_of met) (depth_of (t ∷ ts))) (first_of_each met ts)
        → AreNoLarger (weight_of met + weight_of (t ∷ ts)) (max (depth_of met) (depth_of (t ∷ ts))) (elim b [ true ↦ first_of_each met ts | false ↦ first_of_each (met ++ t ∷ []) ts ])
    go true more less = less
    go false more less = more

node_fits : (h : Tree) (ts : List Tree) → IsWithinLimits (applied h ts) → IsWithinLimits (applied h (first_of_each [] ts))
node_fits h ts f =
    let s = firsts_no_larger [] ts in
    let n = no_larger_node h h ts (first_of_each [] ts) record { light = omega arith; shallow = omega arith } record { light = omega (arith, s.light); shallow = omega (arith, s.shallow) } in
    no_larger_fits (applied h ts) (applied h (first_of_each [] ts)) n f

-- the list is no larger than before
pub firsts_fit : (e h : Tree) (ts : List Tree) → Some (h, ts) ≡ node_of e → IsWithinLimits e → IsWithinLimits (applied h (first_of_each [] ts))
firsts_fit e h ts q f = node_fits h ts (subst IsWithinLimits (seen_node e h ts q) f)

-- ---- the walk fails where it did before

first_stays : (t : Tree) (met ts : List Tree) → (rest : List Tree) × (first_of_each (t ∷ met) ts ≡ t ∷ rest)
first_stays t met [] = (met, refl)
first_stays t met (u ∷ us) = go (is_among u (t ∷ met)) (first_stays t met us) (first_stays t (met ++ u ∷ []) us)
  where
    go : (b : Bool) → (rest : List Tree) × (first_of_each (t ∷ met) us ≡ t ∷ rest) → (rest : List Tree) × (first_of_each (t ∷ met ++ u ∷ []) us ≡ t ∷ rest)
        → (rest : List Tree) × ((elim b [ true ↦ first_of_each (t ∷ met) us | false ↦ first_of_each (t ∷ met ++ u ∷ []) us ]) ≡ t ∷ rest)
    go true m n = m
    go false m n = n

abbrev in_atom : Tree → List Tree → Option Failure
in_atom e [] = Some no_index
in_atom e (i ∷ is) = Some (missing i e)

atom_firsts : (e : Tree) (ts : List Tree) → in_atom e (first_of_each [] ts) ≡ in_atom e ts
atom_firsts e [] = refl
atom_firsts e (t ∷ ts) = ap (in_atom e) (first_stays t [] ts).1

before_none : (d : Option Failure) → before d None ≡ d
before_none None = refl
before_none (Some d) = refl

before_before : (c d g : Option Failure) → before (before c d) g ≡ before c (before d g)
before_before None d g = refl
before_before (Some c) d g = refl

module _ (e : Tree) (f : Tree → Option Failure) where
  fails_among-push : (ts : List Tree) (t : Tree) → fails_among e f (ts ++ t ∷ []) ≡ before (fails_among e f ts) (fails_at e f t)
  fails_among-push [] t = before_none (fails_at e f t)
  fails_among-push (u ∷ us) t = ap (before (fails_at e f u)) (fails_among-push us t) ∙ sym (before_before (fails_at e f u) (fails_among e f us) (fails_at e f t))

  -- an index that is met already, where none of those failed
  met_before : (t : Tree) (met : List Tree) → is_among t met ≡ true → fails_among e f met ≡ None → fails_at e f t ≡ None
  met_before t [] a q = absurd (true≢false (sym a))
  met_before t (u ∷ us) a q = go (same t u) refl (fails_at e f u) refl (λ c d. met_before t us c d)
    where
      go : (b : Bool) → same t u ≡ b → (d : Option Failure) → fails_at e f u ≡ d → (is_among t us ≡ true → fails_among e f us ≡ None → fails_at e f t ≡ None) → fails_at e f t ≡ None
      go b s (Some d) w more = let n : Some d ≡ None = sym (ap (λ c. before c (fails_among e f us)) w) ∙ q in cc
      go true s None w more = ap (fails_at e f) ((same_decides t u).0 s) ∙ w
      go false s None w more = more (sym (ap (λ b. b || is_among t us) s) ∙ a) (sym (ap (λ c. before c (fails_among e f us)) w) ∙ q)

  met_fails : (t : Tree) (met ts : List Tree) → is_among t met ≡ true → before (fails_among e f met) (fails_among e f ts) ≡ before (fails_among e f met) (before (fails_at e f t) (fails_among e f ts))
  met_fails t met ts a = go (fails_among e f met) refl
    where
      go : (d : Option Failure) → fails_among e f met ≡ d → before d (fails_among e f ts) ≡ before d (before (fails_at e f t) (fails_among e f ts))
      go (Some d) q = refl
      go None q = ap (λ c. before c (fails_among e f ts)) (sym (met_before t met a q))

  firsts_fail : (met ts : List Tree) → fails_among e f (first_of_each met ts) ≡ before (fails_among e f met) (fails_among e f ts)
  firsts_fail met [] = sym (before_none (fails_among e f met))
  firsts_fail met (t ∷ ts) = go (is_among t met) refl (firsts_fail met ts) (firsts_fail (met ++ t ∷ []) ts)
    where
      go : (b : Bool) → is_among t met ≡ b → fails_among e f (first_of_each met ts) ≡ before (fails_among e f met) (fails_among e f ts)
          → fails_among e f (first_of_each (met ++ t ∷ []) ts) ≡ before (fails_among e f (met ++ t ∷ [])) (fails_among e f ts)
          → fails_among e f (elim b [ true ↦ first_of_each met ts | false ↦ first_of_each (met ++ t ∷ []) ts ]) ≡ before (fails_among e f met) (before (fails_at e f t) (fails_among e f ts))
      go true a was now = was ∙ met_fails t met ts a
      go false a was now =
          now ∙ ap (λ d. before d (fails_among e f ts)) (fails_among-push met t) ∙ before_before (fails_among e f met) (fails_at e f t) (fails_among e f ts)

firsts_fail_in : (e : Tree) (f : Tree → Option Failure) (ts : List Tree) → fails_in e f (first_of_each [] ts) ≡ fails_in e f ts
firsts_fail_in (node h us) f ts = firsts_fail (node h us) f [] ts
firsts_fail_in (num n) f ts = sym (go (first_of_each [] ts)) ∙ atom_firsts (num n) ts ∙ go ts
  where
    go : (is : List Tree) → in_atom (num n) is ≡ fails_in (num n) f is
    go [] = refl
    go (i ∷ is) = refl
firsts_fail_in (text s) f ts = sym (go (first_of_each [] ts)) ∙ atom_firsts (text s) ts ∙ go ts
  where
    go : (is : List Tree) → in_atom (text s) is ≡ fails_in (text s) f is
    go [] = refl
    go (i ∷ is) = refl
firsts_fail_in (symbol x) f ts = sym (go (first_of_each [] ts)) ∙ atom_firsts (symbol x) ts ∙ go ts
  where
    go : (is : List Tree) → in_atom (symbol x) is ≡ fails_in (symbol x) f is
    go [] = refl
    go (i ∷ is) = refl

-- one index, with what fails inside its part
abbrev failing : Tree → (Tree → Option Failure) → Tree → Option Failure
failing e f i = elim (is_list i) [ true ↦ fails_in e f (elements i) | false ↦ fails_at e f i ]

index_once : (e : Tree) (f : Tree → Option Failure) (i : Tree) → failing e f (once i) ≡ failing e f i
index_once e f (num n) = refl
index_once e f (text s) = refl
index_once e f (symbol x) = refl
index_once e f (node h ts) = go (is_the (codes "List") h) refl
  where
    go : (b : Bool) → is_the (codes "List") h ≡ b
        → failing e f (elim b [ true ↦ applied h (first_of_each [] (to_list ts)) | false ↦ node h ts ]) ≡ elim b [ true ↦ fails_in e f (to_list ts) | false ↦ fails_at e f (node h ts) ]
    go true q =
        ap (λ (b : Bool). elim b [ true ↦ fails_in e f (to_list (from_list (first_of_each [] (to_list ts)))) | false ↦ fails_at e f (applied h (first_of_each [] (to_list ts))) ]) q
        ∙ ap (fails_in e f) (to_list_from_list (first_of_each [] (to_list ts))) ∙ firsts_fail_in e f (to_list ts)
    go false q = ap (λ (b : Bool). elim b [ true ↦ fails_in e f (to_list ts) | false ↦ fails_at e f (node h ts) ]) q

pub once_fails : (is : List Tree) (e : Tree) → failure (map once is) e ≡ failure is e
once_fails [] e = refl
once_fails (i ∷ is) e = ap (λ f. failing e f (once i)) (λ j t. once_fails is t j) ∙ index_once e (λ t. failure is t) i
