-- The walk along indices, and the parts that are made.
use Rattle.std.proofs.Common.{◌≡◌, ◌<◌, ◌≤◌, ◌+◌, ℕ, true, nat_eq, List, length, drop, get_or, Option, Some, None, add-one, sym, ap, ◌∙◌, arith}
use Rattle.std.proofs.lemmas.Option.{slice_get-map, slice_get_read}
use Rattle.std.specs.List.{list_any}
use Rattle.std.specs.Prelude.{slice_get, option_map}
use Rattle.wl_expr.specs.Stamped.{Stamped, plain}
use Rattle.wl_expr.specs.Tree.{Tree, to_list_from_list}
use Rattle.wl_expr.specs.Words.{applied}
use Rattle.wl_lists.specs.Answers.{trees}
use Rattle.wl_lists.specs.Nodes.{node_of}
use Rattle.wl_lists.specs.Parts.{Failure, before, fails_among, fails_at}
use Rattle.wl_lists.specs.PartsInside.{part_standing}
use Rattle.wl_lists.proofs.Rows.{seen_node}
use Rattle.wl_lists.proofs.Splits.{next_of}

standing : (h : Tree) (ts : List Tree) (k : ℕ) → part_standing (applied h ts) (k + 1) ≡ slice_get ts k
standing h ts k = ap (part_standing (applied h ts)) (add-one k) ∙ ap (λ us. slice_get us k) (to_list_from_list ts)

pub element_stands : (e h : Tree) (es : List Stamped) (k n : ℕ) (t : Stamped) → Some (h, trees es) ≡ node_of e → n ≡ length es → k + 1 ≤ n → t ≡ get_or es k t → part_standing e (k + 1) ≡ Some (plain t)
element_stands e h es k n t q l w p =
    ap (λ d. part_standing d (k + 1)) (seen_node e h (trees es) q) ∙ standing h (trees es) k ∙ slice_get-map plain es k ∙ ap (option_map plain) (slice_get_read es n k t l (omega (arith, w)) p)

-- the parts that stand at these places are walked through without a failure
abbrev pub AreWalked : Tree → (Tree → Option Failure) → List ℕ → Type 0
AreWalked e f ks = (k : ℕ) (t : Tree) → list_any (nat_eq k) ks ≡ true → part_standing e k ≡ Some t → f t ≡ None

-- behind an index without a failure there is none either
walked_first : (d g : Option Failure) → before d g ≡ None → g ≡ None
walked_first None g q = q
walked_first (Some d) g q = cc

pub walked_on : (e : Tree) (f : Tree → Option Failure) (is : List Stamped) (k : ℕ) (i : Stamped) → k < length is → i ≡ get_or is k i → fails_among e f (trees (drop k is)) ≡ None → fails_among e f (trees (drop (k + 1) is)) ≡ None
walked_on e f is k i l p q =
    walked_first (fails_at e f (plain i)) (fails_among e f (trees (drop (k + 1) is))) (ap (λ (js : List Stamped). fails_among e f (trees js)) (sym (next_of is k i l p)) ∙ q)
