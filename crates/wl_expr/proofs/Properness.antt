-- What is proper of a node and of its parts.
use Rattle.std.proofs.Common.{ℕ, zero, suc, ◌+◌, ◌<◌, List, [], ◌∷◌, length, get_or, take, add-one, arith}
use Rattle.std.proofs.lemmas.List.Elements.{All-nil, All-cons, All-head, All-tail}
use Rattle.std.specs.List.{All}
use Rattle.wl_expr.specs.Proper.{IsProper, AreProper}
use Rattle.wl_expr.specs.Stamped.{Stamped, plain, plains, from_list}
use Rattle.wl_expr.specs.Tree.{Tree, node}

pub are_proper : (ts : List Stamped) → All (λ t. IsProper (plain t)) ts → AreProper (plains (from_list ts))
are_proper [] h = tt
are_proper (t ∷ ts) h = (All-head (λ t. IsProper (plain t)) t ts h, are_proper ts (All-tail (λ t. IsProper (plain t)) t ts h))

pub all_proper : (ts : List Stamped) → AreProper (plains (from_list ts)) → All (λ t. IsProper (plain t)) ts
all_proper [] h = All-nil (λ (t : Stamped). IsProper (plain t))
all_proper (t ∷ ts) h = All-cons (λ t. IsProper (plain t)) t ts h.0 (all_proper ts h.1)

-- one element more
pub are_proper_more : (ts : List Stamped) (i : ℕ) (d : Stamped) → i < length ts → AreProper (plains (from_list (take i ts))) → IsProper (plain (get_or ts i d)) → AreProper (plains (from_list (take (i + 1) ts)))
are_proper_more [] i d l ps p = absurd (omega arith)
are_proper_more (t ∷ ts) zero d l ps p = (p, tt)
are_proper_more (t ∷ ts) (suc i) d l ps p = rw add-one (ps.0, rw add-one at (are_proper_more ts i d (omega arith) ps.1 p))

pub proper_node : (h : Tree) (ts : List Stamped) → IsProper h → All (λ t. IsProper (plain t)) ts → IsProper (node h (plains (from_list ts)))
proper_node h ts p ps = (p, are_proper ts ps)
