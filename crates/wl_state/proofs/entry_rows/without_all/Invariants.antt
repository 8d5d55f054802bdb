use Rattle.std.proofs.Common.{◌≡◌, drop}
use Rattle.wl_rules.specs.Attributes.{without_all}
use Rattle.wl_state.proofs.entry_rows.without_all.Given as goal

abbrev pub invariant-loop-attribute : goal.invariant-loop-attribute
invariant-loop-attribute l = without_all l.changed (drop l.attribute-index l.attributes) ≡ without_all l.fn.set l.attributes
