use Rattle.std.proofs.Common.{◌≡◌, false, take}
use Rattle.wl_expr.specs.Same.{is_name_among}
use Rattle.wl_assign.specs.Kinds.{named_in}
use Rattle.wl_assign.proofs.tags.is_met.Given as goal

abbrev pub invariant-loop-arg : goal.invariant-loop-arg
invariant-loop-arg l = is_name_among l.name (named_in (take l.arg-index l.args)) ≡ false
