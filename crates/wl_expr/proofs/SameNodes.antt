-- When two nodes are one tree.
use Rattle.std.proofs.Common.{◌≡◌, ◌↔◌, Bool, ◌<◌, ℕ, zero, suc, List, [], ◌∷◌, length, get_or, map, ap, arith}
use Rattle.std.specs.Bool.{one_answer}
use Rattle.std.specs.Prelude.{IsTrue}
use Rattle.wl_expr.specs.Same.{same, same_decides}
use Rattle.wl_expr.specs.Tree.{Tree, node, to_list}
use Rattle.wl_expr.specs.Stamped.{Stamped, plain, plains, from_list}
use Rattle.wl_expr.proofs.Parts.{to_list_plains, equal_parts}

pub same_nodes : (h k : Tree) (xs ys : List Stamped) → (h ≡ k) × (map plain xs ≡ map plain ys) ↔ (node h (plains (from_list xs)) ≡ node k (plains (from_list ys)))
same_nodes h k xs ys = (
  λ p. equal_parts h k xs ys p.0 p.1,
  λ e. (cc, cc (ap to_list (let parts : plains (from_list xs) ≡ plains (from_list ys) = cc in parts), to_list_plains xs, to_list_plains ys)),
)

pub same_at : (xs ys : List Stamped) (i : ℕ) (d e : Stamped) → i < length xs → map plain xs ≡ map plain ys → plain (get_or xs i d) ≡ plain (get_or ys i e)
same_at [] [] i d e h p = absurd (omega arith)
same_at [] (y ∷ ys) i d e h p = absurd (omega arith)
same_at (x ∷ xs) [] i d e h p = cc
same_at (x ∷ xs) (y ∷ ys) zero d e h p = cc
same_at (x ∷ xs) (y ∷ ys) (suc i) d e h p = same_at xs ys i d e (omega arith) (cc)

-- an answer that is true of one tree alone is what `same` says
pub same_answer : (r : Bool) (a b : Tree) → IsTrue r ↔ (a ≡ b) → r ≡ same a b
same_answer r a b e = one_answer r (same a b) (e.0, e.1) (same_decides a b)
