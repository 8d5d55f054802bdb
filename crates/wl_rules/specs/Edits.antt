-- A change of a list of rules at a place.
use Rattle.std.specs.Prelude.{◌≤◌, ◌<◌, List, length, insert, remove, slice_set}
use Rattle.wl_rules.specs.declared.rule.Rule.{Rule}
use Rattle.wl_rules.specs.declared.rule_list.Edit.{Edit}
use Rattle.wl_rules.specs.declared.rule_list.Edit.TheVariants.{Insert, Replace, Remove}

abbrev pub CanEdit : Edit → List Rule → Type 0
CanEdit (Insert at r) rs = at ≤ length rs
CanEdit (Replace at r) rs = at < length rs
CanEdit (Remove at) rs = at < length rs

abbrev pub edited : Edit → List Rule → List Rule
edited (Insert at r) rs = insert rs at r
edited (Replace at r) rs = slice_set rs at r
edited (Remove at) rs = remove rs at
