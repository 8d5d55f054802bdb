use Rattle.std.proofs.Common.{◌≡◌, take}
use Rattle.wl_rules.proofs.rule_list.copied.Given as goal

abbrev pub invariant-loop-kept : goal.invariant-loop-kept
invariant-loop-kept l = l.copy.items ≡ take l.kept-index l.rules
