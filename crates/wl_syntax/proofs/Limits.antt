-- The parts of what is within the limits of an expression are within them.
use Rattle.std.proofs.Common.{ℕ, zero, suc, ◌+◌, ◌-◌, ◌<◌, ◌≤◌, ◌≡◌, List, [], ◌∷◌, ◌++◌, length, take, get_or, refl, sym, ap, ap₂, ◌∙◌, subst, arith}
use Rattle.std.specs.Prelude.{Option}
use Rattle.wl_expr.specs.declared.stamp.Stamp.{Stamp}
use Rattle.wl_expr.specs.Stamped.{Stamped, node, from_list, unstamped, unstampeds}
use Rattle.wl_expr.specs.Tree as full
use Rattle.wl_expr.specs.Tree.{weight, weights, depth, depths, IsWithinLimits, AreSmall}
use Rattle.wl_syntax.specs.declared.operator.Infix.{Infix}
use Rattle.wl_syntax.specs.Atoms.{named}
use Rattle.wl_syntax.specs.Built.{unstamped_all, IsNest}
use Rattle.wl_syntax.specs.Fits.{FitsOf, FitsOfAll}
use Rattle.wl_syntax.specs.Lower.{negated_at, nested_on}
use Rattle.wl_syntax.specs.Table.{infix_name}
use Rattle.wl_syntax.proofs.Building.{list_unstamped}

pub first_fits : (h a : full.Tree) (ts : full.Trees) → IsWithinLimits (full.node h (full.more a ts)) → IsWithinLimits a
first_fits h a ts w = let l = w.light in let s = w.shallow in record { light = omega arith; shallow = omega arith }

pub second_fits : (h a b : full.Tree) → IsWithinLimits (full.node h (full.more a (full.more b full.none))) → IsWithinLimits b
second_fits h a b w = let l = w.light in let s = w.shallow in record { light = omega arith; shallow = omega arith }

pub one_fits : (e : full.Tree) → AreSmall (full.more e full.none) → IsWithinLimits e
one_fits e w = let l = w.light in let s = w.shallow in record { light = omega arith; shallow = omega arith }

-- negation keeps weight and depth
pub negated-weight : (n : ℕ) (t : full.Tree) → weight (negated_at n t) ≡ weight t
negated-weight zero (full.num f) = refl
negated-weight (suc n) (full.node h (full.more t ts)) = ap (λ k. weight h + (k + weights ts)) (negated-weight n t)
negated-weight zero (full.text s) = refl
negated-weight zero (full.symbol s) = refl
negated-weight zero (full.node h ts) = refl
negated-weight (suc n) (full.num f) = refl
negated-weight (suc n) (full.text s) = refl
negated-weight (suc n) (full.symbol s) = refl
negated-weight (suc n) (full.node h full.none) = refl

pub negated-depth : (n : ℕ) (t : full.Tree) → depth (negated_at n t) ≡ depth t
negated-depth zero (full.num f) = refl
negated-depth (suc n) (full.node h (full.more t ts)) = let e = negated-depth n t in omega arith
negated-depth zero (full.text s) = refl
negated-depth zero (full.symbol s) = refl
negated-depth zero (full.node h ts) = refl
negated-depth (suc n) (full.num f) = refl
negated-depth (suc n) (full.text s) = refl
negated-depth (suc n) (full.symbol s) = refl
negated-depth (suc n) (full.node h full.none) = refl

pub unnegated_fits : (n : ℕ) (t : full.Tree) → IsWithinLimits (negated_at n t) → IsWithinLimits t
unnegated_fits n t w = record { light = subst (λ k. k ≤ 4000000) (negated-weight n t) w.light; shallow = subst (λ k. k ≤ 1000) (negated-depth n t) w.shallow }

negated_fits : (n : ℕ) (t : full.Tree) → IsWithinLimits t → IsWithinLimits (negated_at n t)
negated_fits n t w = record { light = subst (λ k. k ≤ 4000000) (sym (negated-weight n t)) w.light; shallow = subst (λ k. k ≤ 1000) (sym (negated-depth n t)) w.shallow }

-- the first element of a node without stamps
pub first_part : (p : Option Stamp) (h : Stamped) (vs : List Stamped) (a : Stamped) (rest : List Stamped) (t : full.Tree) → node p h (from_list vs) ≡ unstamped t → vs ≡ a ∷ rest → IsWithinLimits t → FitsOf a (λ u. u)
first_part p h vs a rest (full.node k (full.more u us)) e s w =
    let q : from_list (a ∷ rest) ≡ unstampeds (full.more u us) = subst (λ v. from_list v ≡ unstampeds (full.more u us)) s cc in
    let b : a ≡ unstamped u = cc in
    (u, b, first_fits k u us w)
first_part p h vs a rest (full.node k full.none) e s w =
    let q : from_list (a ∷ rest) ≡ unstampeds full.none = subst (λ v. from_list v ≡ unstampeds full.none) s cc in absurd (cc)
first_part p h vs a rest (full.num x) e s w = absurd (cc)
first_part p h vs a rest (full.text x) e s w = absurd (cc)
first_part p h vs a rest (full.symbol x) e s w = absurd (cc)

-- pairs nested to the left
inner_fits : (p : Infix) (e : full.Tree) (hs : List full.Tree) → IsWithinLimits (nested_on p e hs) → IsWithinLimits e
inner_fits p e [] w = w
inner_fits p e (h ∷ hs) w = first_fits (full.symbol (infix_name p)) e (full.more h full.none) (inner_fits p (named (infix_name p) (e ∷ h ∷ [])) hs w)

nested-append : (p : Infix) (e : full.Tree) (gs hs : List full.Tree) → nested_on p e (gs ++ hs) ≡ nested_on p (nested_on p e gs) hs
nested-append p e [] hs = refl
nested-append p e (g ∷ gs) hs = nested-append p (named (infix_name p) (e ∷ g ∷ [])) gs hs

split_at : (vs : List Stamped) (i : ℕ) (d : Stamped) (fs : List full.Tree) → i < length vs → vs ≡ unstamped_all fs
    → (gs : List full.Tree) × (g : full.Tree) × (hs : List full.Tree) × (fs ≡ gs ++ g ∷ hs) × (take i vs ≡ unstamped_all gs) × (get_or vs i d ≡ unstamped g)
split_at [] i d fs l e = absurd (omega arith)
split_at (v ∷ vs) i d [] l e = absurd (cc)
split_at (v ∷ vs) zero d (f ∷ fs) l e = ([], f, fs, refl, refl, cc)
split_at (v ∷ vs) (suc i) d (f ∷ fs) l e =
    let j : vs ≡ unstamped_all fs = cc in
    let k : v ≡ unstamped f = cc in
    let (gs, g, hs, a, b, c) = split_at vs i d fs (omega arith) j in
    (f ∷ gs, g, hs, ap (λ xs. f ∷ xs) a, ap₂ (λ x xs. x ∷ xs) k b, c)

pub nest_fits : (p : Infix) (a : Stamped) (vs : List Stamped) (i : ℕ) (d r v : Stamped) (e : full.Tree) (fs : List full.Tree) → i < length vs → IsNest p a (take i vs) r → a ≡ unstamped e → vs ≡ unstamped_all fs → IsWithinLimits (nested_on p e fs) → v ≡ get_or vs i d → FitsOfAll (r ∷ v ∷ []) (named (infix_name p))
nest_fits p a vs i d r v e fs l n x y w z =
    let (gs, g, hs, j, k, m) = split_at vs i d fs l y in
    (nested_on p e gs ∷ g ∷ [], ap₂ (λ s t. s ∷ t ∷ []) (n e gs x k) (z ∙ m), inner_fits p (named (infix_name p) (nested_on p e gs ∷ g ∷ [])) hs (subst IsWithinLimits (ap (nested_on p e) j ∙ nested-append p e gs (g ∷ hs)) w))

-- what is made where a number deep in a node is negated
pub negated_parts : (p : Option Stamp) (h : Stamped) (vs : List Stamped) (a : Stamped) (rest : List Stamped) (turned : Stamped) (n : ℕ) (t : full.Tree) → node p h (from_list vs) ≡ unstamped t → vs ≡ a ∷ rest → 0 < n
    → ((u : full.Tree) → a ≡ unstamped u → turned ≡ unstamped (negated_at (n - 1) u)) → IsWithinLimits t → (all : List Stamped) → all ≡ turned ∷ rest
    → (g : full.Tree) × (es : List full.Tree) × (h ≡ unstamped g) × (all ≡ unstamped_all es) × IsWithinLimits (full.node g (full.from_list es))
negated_parts p h vs a rest turned zero t e s l f w all i = absurd (omega arith)
negated_parts p h vs a rest turned (suc n) (full.node k (full.more u us)) e s l f w all i =
    let q : from_list (a ∷ rest) ≡ unstampeds (full.more u us) = subst (λ v. from_list v ≡ unstampeds (full.more u us)) s cc in
    let b : a ≡ unstamped u = cc in
    let z : from_list rest ≡ unstampeds us = cc in
    let hk : h ≡ unstamped k = cc in
    let m : suc n - 1 ≡ n = omega arith in
    let y : turned ≡ unstamped (negated_at n u) = subst (λ j. turned ≡ unstamped (negated_at j u)) m (f u b) in (
      k,
      negated_at n u ∷ full.to_list us,
      hk,
      i ∙ ap₂ (λ x xs. x ∷ xs) y (list_unstamped rest us z),
      subst (λ ts. IsWithinLimits (full.node k (full.more (negated_at n u) ts))) (sym (full.from_list_to_list us)) (negated_fits (suc n) (full.node k (full.more u us)) w),
    )
negated_parts p h vs a rest turned (suc n) (full.node k full.none) e s l f w all i =
    let q : from_list (a ∷ rest) ≡ unstampeds full.none = subst (λ v. from_list v ≡ unstampeds full.none) s cc in absurd (cc)
negated_parts p h vs a rest turned (suc n) (full.num x) e s l f w all i = absurd (cc)
negated_parts p h vs a rest turned (suc n) (full.text x) e s l f w all i = absurd (cc)
negated_parts p h vs a rest turned (suc n) (full.symbol x) e s l f w all i = absurd (cc)
