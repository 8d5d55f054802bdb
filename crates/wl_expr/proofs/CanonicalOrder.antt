-- The canonical order is a total order of proper trees, Equal on one tree alone.
use Rattle.std.proofs.Common.{◌≡◌, pos, codes, Bool, true, false, cond, not, List, [], ◌∷◌, map, reverse, refl}
use Rattle.std.proofs.lemmas.Cmp.{nat_list_cmp_total}
use Rattle.std.proofs.lemmas.List.{reverse-append}
use Rattle.std.proofs.lemmas.List.Elements.{All-map, All-filter, All-push, All-nil, All-cons, All-head, All-tail}
use Rattle.std.specs.Cmp.{IsTotalOrder}
use Rattle.std.specs.Cmp.Lexicographic.{slice_cmp}
use Rattle.std.specs.List.{All}
use Rattle.std.specs.Ordering.{ordering_then, ordering_reverse}
use Rattle.std.specs.declared.cmp.Ordering.TheVariants.{Equal}
use Rattle.wl_exact.specs.Fraction.{IsNumber, of_int}
use Rattle.wl_expr.specs.Order.{Power, power_of, power_order, factors, last_first, without_numbers, structural_order, canonical_order}
use Rattle.wl_expr.specs.OrderLaws.{IsTransitive, TellsApart}
use Rattle.wl_expr.specs.Proper.{IsProper, AreProper}
use Rattle.wl_expr.specs.Tree.{Tree, Trees, num, text, symbol, node, none, more, to_list}
use Rattle.wl_expr.specs.Words.{is_number, is_the}
use Rattle.wl_expr.proofs.Chain.{Chain, total_chain, then_chain, list_chain, list_reverse, then_reverse, then_equal, chain_upto, own_opposite}
use Rattle.wl_expr.proofs.NumberOrder.{number_chain, number_reverse, one_number}
use Rattle.wl_expr.proofs.StructuralOrder.{structural_chain, structural_reverse, structural_equal}

-- ---- powers

record IsProperPower (p : Power) : Type 0 where
  base : IsProper p.base
  exponent : IsNumber p.exponent

proper_choice : (b : Bool) (p q : Power) → IsProperPower p → IsProperPower q → IsProperPower (cond b p q)
proper_choice true p q s t = s
proper_choice false p q s t = t

proper_power : (t : Tree) → IsProper t → IsProperPower (power_of t)
proper_power (node h (more b (more (num e) none))) p =
    let whole : Power = record { base = node h (more b (more (num e) none)); exponent = of_int (pos 1) } in
    proper_choice (is_the (codes "Power") h) record { base = b; exponent = e } whole record { base = p.1.0; exponent = p.1.1.0 } record { base = p; exponent = one_number }
proper_power _ p = record { base = p; exponent = one_number }

power_chain : (p q r : Power) → IsProperPower p → IsProperPower q → IsProperPower r → Chain (power_order p q) (power_order q r) (power_order p r)
power_chain p q r s t u = then_chain _ _ _ _ _ _ (structural_chain p.base q.base r.base s.base t.base u.base) (number_chain p.exponent q.exponent r.exponent s.exponent t.exponent u.exponent)

power_reverse : (p q : Power) → power_order q p ≡ ordering_reverse (power_order p q)
power_reverse p q = then_reverse _ _ _ _ (structural_reverse p.base q.base) (number_reverse p.exponent q.exponent)

-- ---- lists of factors

all_proper : (ts : Trees) → AreProper ts → All IsProper (to_list ts)
all_proper none p = All-nil IsProper
all_proper (more t ts) p = All-cons IsProper t (to_list ts) p.0 (all_proper ts p.1)

all_reverse : {X : Type 0} (P : X → Type 0) (xs : List X) → All P xs → All P (reverse xs)
all_reverse P [] h = All-nil P
all_reverse P (x ∷ xs) h = rw (reverse-append (x ∷ []) xs) (All-push P (reverse xs) x (all_reverse P xs (All-tail P x xs h)) (All-head P x xs h))

proper_list_choice : (b : Bool) (ts us : List Tree) → All IsProper ts → All IsProper us → All IsProper (cond b ts us)
proper_list_choice true ts us p q = p
proper_list_choice false ts us p q = q

one_proper : (t : Tree) → IsProper t → All IsProper (t ∷ [])
one_proper t p = All-cons IsProper t [] p (All-nil IsProper)

proper_factors : (t : Tree) → IsProper t → All IsProper (factors t)
proper_factors (node h ts) p =
    proper_list_choice (is_the (codes "Times") h) (without_numbers (to_list ts)) (node h ts ∷ []) (All-filter (λ t. not (is_number t)) IsProper (to_list ts) (all_proper ts p.1)) (one_proper (node h ts) p)
proper_factors (num n) p = one_proper (num n) p
proper_factors (text s) p = one_proper (text s) p
proper_factors (symbol s) p = one_proper (symbol s) p

all_proper_powers : (ts : List Tree) → All IsProper ts → All (λ t. IsProperPower (power_of t)) ts
all_proper_powers ts h k d l = proper_power _ (h k d l)

proper_powers : (t : Tree) → IsProper t → All IsProperPower (last_first (factors t))
proper_powers t p = all_reverse IsProperPower (map power_of (factors t)) (All-map IsProperPower power_of (factors t) (all_proper_powers (factors t) (proper_factors t p)))

-- ---- the canonical order

-- by factors and then by structure
by_factors_chain : (a b c : Tree) → IsProper a → IsProper b → IsProper c → Chain
    (ordering_then (slice_cmp power_order (last_first (factors a)) (last_first (factors b))) (structural_order a b))
    (ordering_then (slice_cmp power_order (last_first (factors b)) (last_first (factors c))) (structural_order b c))
    (ordering_then (slice_cmp power_order (last_first (factors a)) (last_first (factors c))) (structural_order a c))
by_factors_chain a b c p q r = then_chain _ _ _ _ _ _
    (list_chain IsProperPower power_order power_chain _ _ _ (proper_powers a p) (proper_powers b q) (proper_powers c r))
    (structural_chain a b c p q r)

by_factors_reverse : (a b : Tree) →
    ordering_then (slice_cmp power_order (last_first (factors b)) (last_first (factors a))) (structural_order b a)
    ≡ ordering_reverse (ordering_then (slice_cmp power_order (last_first (factors a)) (last_first (factors b))) (structural_order a b))
by_factors_reverse a b = then_reverse _ _ _ _ (list_reverse power_order power_reverse (last_first (factors a)) (last_first (factors b))) (structural_reverse a b)

pub canonical_chain : (a b c : Tree) → IsProper a → IsProper b → IsProper c → Chain (canonical_order a b) (canonical_order b c) (canonical_order a c)
canonical_chain (num n) (num m) (num l) p q r = number_chain n m l p q r
canonical_chain (text s) (text t) (text u) p q r = total_chain nat_list_cmp_total s t u
canonical_chain (symbol s) (symbol t) (symbol u) p q r = by_factors_chain (symbol s) (symbol t) (symbol u) p q r
canonical_chain (symbol s) (symbol t) (node l vs) p q r = by_factors_chain (symbol s) (symbol t) (node l vs) p q r
canonical_chain (symbol s) (node k us) (symbol u) p q r = by_factors_chain (symbol s) (node k us) (symbol u) p q r
canonical_chain (symbol s) (node k us) (node l vs) p q r = by_factors_chain (symbol s) (node k us) (node l vs) p q r
canonical_chain (node h ts) (symbol t) (symbol u) p q r = by_factors_chain (node h ts) (symbol t) (symbol u) p q r
canonical_chain (node h ts) (symbol t) (node l vs) p q r = by_factors_chain (node h ts) (symbol t) (node l vs) p q r
canonical_chain (node h ts) (node k us) (symbol u) p q r = by_factors_chain (node h ts) (node k us) (symbol u) p q r
canonical_chain (node h ts) (node k us) (node l vs) p q r = by_factors_chain (node h ts) (node k us) (node l vs) p q r
canonical_chain _ _ (num l) p q r = record { alike_left = λ e. cc; alike_right = λ e. cc; less = λ e f. cc }
canonical_chain _ _ _ p q r = record { alike_left = λ e. cc; alike_right = λ e. cc; less = λ e f. cc }

pub canonical_reverse : (a b : Tree) → canonical_order b a ≡ ordering_reverse (canonical_order a b)
canonical_reverse (num n) (num m) = number_reverse n m
canonical_reverse (text s) (text t) = nat_list_cmp_total.antisymm t s
canonical_reverse (symbol s) (symbol t) = by_factors_reverse (symbol s) (symbol t)
canonical_reverse (symbol s) (node k us) = by_factors_reverse (symbol s) (node k us)
canonical_reverse (node h ts) (symbol t) = by_factors_reverse (node h ts) (symbol t)
canonical_reverse (node h ts) (node k us) = by_factors_reverse (node h ts) (node k us)
canonical_reverse _ _ = refl

pub canonical_equal : (a b : Tree) → IsProper a → IsProper b → canonical_order a b ≡ Equal → a ≡ b
canonical_equal (num n) (num m) p q e = structural_equal (num n) (num m) p q e
canonical_equal (text s) (text t) p q e = structural_equal (text s) (text t) p q e
canonical_equal (symbol s) (symbol t) p q e = structural_equal (symbol s) (symbol t) p q (then_equal _ _ e).1
canonical_equal (symbol s) (node k us) p q e = structural_equal (symbol s) (node k us) p q (then_equal _ _ e).1
canonical_equal (node h ts) (symbol t) p q e = structural_equal (node h ts) (symbol t) p q (then_equal _ _ e).1
canonical_equal (node h ts) (node k us) p q e = structural_equal (node h ts) (node k us) p q (then_equal _ _ e).1
canonical_equal _ _ p q e = cc

pub canonical_transitive : IsTransitive canonical_order
canonical_transitive a b c p q r = chain_upto (canonical_order a b) (canonical_order b c) (canonical_order a c) (canonical_chain a b c p q r)

pub canonical_tells_apart : TellsApart canonical_order
canonical_tells_apart a b p q = (canonical_equal a b p q, λ e. rw (← e) (own_opposite (canonical_order a a) (canonical_reverse a a)))

-- the laws as std has them, for lists of proper trees
pub record ProperTree : Type 0 where
  pub tree : Tree
  pub proper : IsProper tree

pub canonical_total : IsTotalOrder (λ (a b : ProperTree). canonical_order a.tree b.tree)
canonical_total = record {
  antisymm = λ a b. canonical_reverse b.tree a.tree;
  trans = λ a b c. (canonical_chain a.tree b.tree c.tree a.proper b.proper c.proper).less;
  congr = λ a b c e. ((canonical_chain a.tree b.tree c.tree a.proper b.proper c.proper).alike_left e);
}
