-- Rules whose trees may carry stamps.
use Rattle.std.specs.Prelude.{◌≡◌, ◌<◌, ℕ, Bool, true, false, List, [], ◌∷◌, Option, Some, None, length, take, slice_index_or, ⊤}
use Rattle.std.specs.List.Sorted.{IsPartitionPoint}
use Rattle.std.specs.Ordering.{is_le}
use Rattle.wl_expr.specs.Tree.{Tree}
use Rattle.wl_expr.specs.Same.{same}
use Rattle.wl_expr.specs.Stamped.{Stamped, plain}
use Rattle.wl_rules.specs.Entries.{PlainRule}
use Rattle.wl_rules.specs.Key.{Key, key_of, key_order}
use Rattle.wl_rules.specs.RuleLists.{has_left}
use Rattle.wl_rules.specs.declared.rule.Rule.{Rule}

abbrev pub left_of : Rule → Tree
left_of r = plain r.left

-- the rule without its stamps
abbrev pub plain_rule : Rule → PlainRule
plain_rule r = record { left = plain r.left; body = plain r.body }

-- where the rule with this left side stands, if there is one
abbrev pub IsPlaceOf : Tree → List Rule → Option ℕ → Type 0
IsPlaceOf l rs None = has_left left_of l rs ≡ false
IsPlaceOf l rs (Some i) = (i < length rs) × (has_left left_of l (take i rs) ≡ false) × ((d : Rule) → same l (left_of (slice_index_or rs i d)) ≡ true)

-- whether a rule's key isn't greater than this one
abbrev pub is_upto : Key → Rule → Bool
is_upto k r = is_le (key_order (key_of (left_of r)) k)

-- the rules at the front, this many of them, have no greater key, and the others have
abbrev pub IsPlaceByKey : Key → List Rule → ℕ → Type 0
IsPlaceByKey k rs i = IsPartitionPoint (λ r. is_upto k r ≡ true) (λ r. is_upto k r ≡ false) rs i

-- whether two left sides are one tree, stamps apart
abbrev pub same_left : Stamped → Stamped → Bool
same_left a b = same (plain a) (plain b)

-- each left side is among those that are known
abbrev pub AreKnown : (Stamped → Bool) → List Rule → Type 0
AreKnown known [] = ⊤
AreKnown known (r ∷ rs) = (known r.left ≡ true) × AreKnown known rs
