-- What holds of lists of rules.
use Rattle.std.specs.Prelude.{◌≡◌, ◌++◌, if◌then◌else◌, List, [], ◌∷◌}
use Rattle.std.specs.Ordering.{is_eq}
use Rattle.wl_expr.specs.Tree.{Tree}
use Rattle.wl_rules.specs.Entries.{PlainRule, left_side}
use Rattle.wl_rules.specs.Key.{Key, key_of, key_order}
use Rattle.wl_rules.specs.RuleLists.{has_left, replaced, insert, removed, IsInOrder}

abbrev pub IsInOrderAtFirst : Type 0
IsInOrderAtFirst = IsInOrder left_side []

-- a rule that is put leaves the others in order
abbrev pub StaysInOrder : Type 0
StaysInOrder = (n : PlainRule) (rs : List PlainRule) → IsInOrder left_side rs → IsInOrder left_side (insert left_side n rs)

-- and so does one that is taken away
abbrev pub StaysInOrderWithout : Type 0
StaysInOrderWithout = (l : Tree) (rs : List PlainRule) → IsInOrder left_side rs → IsInOrder left_side (removed left_side l rs)

-- ---- rules of equal keys

module _ {R : Type 0} (left : R → Tree) where
  -- the rules of this key
  abbrev pub of_key : Key → List R → List R
  of_key k [] = []
  of_key k (r ∷ rs) = if is_eq (key_order k (key_of (left r))) then r ∷ of_key k rs else of_key k rs

  -- a rule with an identical left side takes the old one's place; any other comes behind all
  abbrev pub joined_by : R → List R → List R
  joined_by n rs = if has_left left (left n) rs then replaced left n rs else rs ++ n ∷ []

-- a rule is put, or the one with this left side is taken away
pub data Change : Type 0 where
  put : PlainRule → Change
  taken : Tree → Change

-- a list after changes
abbrev pub after : List Change → List PlainRule → List PlainRule
after [] rs = rs
after (put n ∷ cs) rs = after cs (insert left_side n rs)
after (taken l ∷ cs) rs = after cs (removed left_side l rs)

-- the rules that are left of these changes, in the order in which they came
abbrev pub as_they_came : List Change → List PlainRule → List PlainRule
as_they_came [] rs = rs
as_they_came (put n ∷ cs) rs = as_they_came cs (joined_by left_side n rs)
as_they_came (taken l ∷ cs) rs = as_they_came cs (removed left_side l rs)

-- after any changes the rules are in the order of their keys
abbrev pub IsInOrderAfter : Type 0
IsInOrderAfter = (cs : List Change) → IsInOrder left_side (after cs [])

-- and those of equal keys in the order in which they came
abbrev pub StandAsTheyCame : Type 0
StandAsTheyCame = (cs : List Change) (k : Key) → of_key left_side k (after cs []) ≡ of_key left_side k (as_they_came cs [])
