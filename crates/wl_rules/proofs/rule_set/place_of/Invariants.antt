use Rattle.std.proofs.Common.{◌≡◌, false, take}
use Rattle.wl_expr.specs.Stamped.{plain}
use Rattle.wl_rules.specs.RuleLists.{has_left}
use Rattle.wl_rules.specs.StampedRules.{left_of}
use Rattle.wl_rules.proofs.rule_set.place_of.Given as goal

abbrev pub invariant-loop-at : goal.invariant-loop-at
invariant-loop-at l = has_left left_of (plain l.left) (take l.at l.rules) ≡ false
