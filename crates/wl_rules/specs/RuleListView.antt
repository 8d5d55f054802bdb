-- The rules behind a shared handle, of which there is none for the empty list.
use Rattle.std.specs.Prelude.{List, []}
use Rattle.std.specs.Option.{option_map_or}
use Rattle.wl_rules.specs.declared.rule.Rule.{Rule}
use Rattle.wl_rules.specs.declared.rule_list.RuleList.TheInside.{Inside}

abbrev pub shared_rules : Inside → List Rule
shared_rules l = option_map_or (λ rc. rc.value.items) l.shared []
