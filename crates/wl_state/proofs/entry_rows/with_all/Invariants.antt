use Rattle.std.proofs.Common.{◌≡◌, drop}
use Rattle.wl_rules.specs.Attributes.{with_all}
use Rattle.wl_state.proofs.entry_rows.with_all.Given as goal

abbrev pub invariant-loop-attribute : goal.invariant-loop-attribute
invariant-loop-attribute l = with_all l.changed (drop l.attribute-index l.attributes) ≡ with_all l.fn.set l.attributes
