-- Lists of rules, whatever a rule keeps beside its left side. More specific rules stand before more general ones, as the tutorial on patterns has it, and equal ones in the order in which they came.
use Rattle.std.specs.Prelude.{◌≡◌, Bool, true, false, if◌then◌else◌, List, [], ◌∷◌, ⊤}
use Rattle.std.specs.Ordering.{is_gt}
use Rattle.wl_expr.specs.Tree.{Tree}
use Rattle.wl_expr.specs.Same.{same}
use Rattle.wl_rules.specs.Key.{Key, key_of, key_order}

module _ {R : Type 0} (left : R → Tree) where
  -- whether there is a rule with this left side
  abbrev pub has_left : Tree → List R → Bool
  has_left l [] = false
  has_left l (r ∷ rs) = if same l (left r) then true else has_left l rs

  -- a rule in the place of the one with its left side
  abbrev pub replaced : R → List R → List R
  replaced n [] = []
  replaced n (r ∷ rs) = if same (left n) (left r) then n ∷ rs else r ∷ replaced n rs

  -- a rule after all rules whose key isn't greater
  abbrev pub inserted : R → List R → List R
  inserted n [] = n ∷ []
  inserted n (r ∷ rs) = if is_gt (key_order (key_of (left r)) (key_of (left n))) then n ∷ r ∷ rs else r ∷ inserted n rs

  -- a rule with an identical left side takes the old one's place; any other rule goes by its key
  abbrev pub insert : R → List R → List R
  insert n rs = if has_left (left n) rs then replaced n rs else inserted n rs

  -- without the rule with this left side
  abbrev pub removed : Tree → List R → List R
  removed l [] = []
  removed l (r ∷ rs) = if same l (left r) then rs else r ∷ removed l rs

  -- ---- the order

  -- no rule has a smaller key than this one
  abbrev pub NoneBefore : Key → List R → Type 0
  NoneBefore k [] = ⊤
  NoneBefore k (r ∷ rs) = (is_gt (key_order k (key_of (left r))) ≡ false) × NoneBefore k rs

  -- each rule comes no later than those behind it
  abbrev pub IsInOrder : List R → Type 0
  IsInOrder [] = ⊤
  IsInOrder (r ∷ rs) = NoneBefore (key_of (left r)) rs × IsInOrder rs
