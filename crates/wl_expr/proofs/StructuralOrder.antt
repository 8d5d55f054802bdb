-- The structural order is a total order of proper trees, Equal on one tree alone.
use Rattle.std.proofs.Common.{◌≡◌, length, refl, sym, ap}
use Rattle.std.proofs.lemmas.Cmp.{nat_cmp_total, nat_list_cmp_total, on_total, then_total, back_total}
use Rattle.std.proofs.lemmas.Map.Lookups.{exact_bytes}
use Rattle.std.specs.Cmp.{IsTotalOrder}
use Rattle.std.specs.Ordering.{nat_cmp, ordering_then, ordering_reverse}
use Rattle.std.specs.Str.{str_to_ascii_lowercase}
use Rattle.std.specs.declared.cmp.Ordering.TheVariants.{Equal}
use Rattle.wl_expr.specs.Order.{name_order, structural_order, structural_orders}
use Rattle.wl_expr.specs.OrderLaws.{IsTransitive, TellsApart}
use Rattle.wl_expr.specs.Proper.{IsProper, AreProper}
use Rattle.wl_expr.specs.Tree.{Tree, Trees, num, text, symbol, node, none, more, to_list}
use Rattle.wl_expr.proofs.Chain.{Chain, total_chain, then_chain, equal_chain, then_reverse, then_equal, chain_upto, own_opposite}
use Rattle.wl_expr.proofs.NumberOrder.{number_chain, number_reverse, number_equal}

pub name_total : IsTotalOrder name_order
name_total = then_total (on_total str_to_ascii_lowercase nat_list_cmp_total) (back_total nat_list_cmp_total)

mutual
  pub structural_chain : (a b c : Tree) → IsProper a → IsProper b → IsProper c → Chain (structural_order a b) (structural_order b c) (structural_order a c)
  structural_chain (num n) (num m) (num l) p q r = number_chain n m l p q r
  structural_chain (text s) (text t) (text u) p q r = total_chain nat_list_cmp_total s t u
  structural_chain (symbol s) (symbol t) (symbol u) p q r = total_chain name_total s t u
  structural_chain (node h ts) (node k us) (node l vs) p q r =
      then_chain _ _ _ _ _ _ (total_chain nat_cmp_total (length (to_list ts)) (length (to_list us)) (length (to_list vs)))
      (then_chain _ _ _ _ _ _ (structural_chain h k l p.0 q.0 r.0) (structural_chains ts us vs p.1 q.1 r.1))
  structural_chain _ _ (num l) p q r = record { alike_left = λ e. cc; alike_right = λ e. cc; less = λ e f. cc }
  structural_chain _ _ _ p q r = record { alike_left = λ e. cc; alike_right = λ e. cc; less = λ e f. cc }

  pub structural_chains : (ts us vs : Trees) → AreProper ts → AreProper us → AreProper vs → Chain (structural_orders ts us) (structural_orders us vs) (structural_orders ts vs)
  structural_chains none none none p q r = equal_chain
  structural_chains (more t ts) (more u us) (more v vs) p q r = then_chain _ _ _ _ _ _ (structural_chain t u v p.0 q.0 r.0) (structural_chains ts us vs p.1 q.1 r.1)
  structural_chains _ _ none p q r = record { alike_left = λ e. cc; alike_right = λ e. cc; less = λ e f. cc }
  structural_chains _ _ _ p q r = record { alike_left = λ e. cc; alike_right = λ e. cc; less = λ e f. cc }

mutual
  pub structural_reverse : (a b : Tree) → structural_order b a ≡ ordering_reverse (structural_order a b)
  structural_reverse (num n) (num m) = number_reverse n m
  structural_reverse (text s) (text t) = nat_list_cmp_total.antisymm t s
  structural_reverse (symbol s) (symbol t) = name_total.antisymm t s
  structural_reverse (node h ts) (node k us) =
      then_reverse _ _ _ _ (nat_cmp_total.antisymm (length (to_list us)) (length (to_list ts))) (then_reverse _ _ _ _ (structural_reverse h k) (structurals_reverse ts us))
  structural_reverse _ _ = refl

  structurals_reverse : (ts us : Trees) → structural_orders us ts ≡ ordering_reverse (structural_orders ts us)
  structurals_reverse none none = refl
  structurals_reverse (more t ts) (more u us) = then_reverse _ _ _ _ (structural_reverse t u) (structurals_reverse ts us)
  structurals_reverse _ _ = refl

equal_node : (h k : Tree) (ts us : Trees) → h ≡ k → ts ≡ us → node h ts ≡ node k us
equal_node h k ts us p q = cc

equal_more : (t u : Tree) (ts us : Trees) → t ≡ u → ts ≡ us → more t ts ≡ more u us
equal_more t u ts us p q = cc

mutual
  pub structural_equal : (a b : Tree) → IsProper a → IsProper b → structural_order a b ≡ Equal → a ≡ b
  structural_equal (num n) (num m) p q e = ap num (number_equal n m p q e)
  structural_equal (text s) (text t) p q e = ap text (exact_bytes s t e)
  structural_equal (symbol s) (symbol t) p q e = ap symbol (sym (exact_bytes t s (then_equal _ _ e).1))
  structural_equal (node h ts) (node k us) p q e =
      let lengths = nat_cmp (length (to_list ts)) (length (to_list us)) in
      let both = then_equal (structural_order h k) (structural_orders ts us) (then_equal lengths (ordering_then (structural_order h k) (structural_orders ts us)) e).1 in
      equal_node h k ts us (structural_equal h k p.0 q.0 both.0) (structurals_equal ts us p.1 q.1 both.1)
  structural_equal _ _ p q e = cc

  structurals_equal : (ts us : Trees) → AreProper ts → AreProper us → structural_orders ts us ≡ Equal → ts ≡ us
  structurals_equal none none p q e = refl
  structurals_equal (more t ts) (more u us) p q e =
      let both = then_equal (structural_order t u) (structural_orders ts us) e in
      equal_more t u ts us (structural_equal t u p.0 q.0 both.0) (structurals_equal ts us p.1 q.1 both.1)
  structurals_equal _ _ p q e = cc

pub structural_transitive : IsTransitive structural_order
structural_transitive a b c p q r = chain_upto (structural_order a b) (structural_order b c) (structural_order a c) (structural_chain a b c p q r)

pub structural_tells_apart : TellsApart structural_order
structural_tells_apart a b p q = (structural_equal a b p q, λ e. rw (← e) (own_opposite (structural_order a a) (structural_reverse a a)))
