use Rattle.std.proofs.Common.{◌≡◌, drop}
use Rattle.wl_rules.specs.Attributes.{with_all}
use Rattle.wl_rules.specs.Start.{protected_with}
use Rattle.wl_rules.proofs.start.protected_with.Given as goal

abbrev pub invariant-loop-attribute : goal.invariant-loop-attribute
invariant-loop-attribute l = with_all l.set (drop l.attribute-index l.attributes) ≡ protected_with l.attributes
