use Rattle.std.proofs.Common.{map, take}
use Rattle.wl_expr.specs.Proper.{AllProper}
use Rattle.wl_expr.specs.Stamped.{plain}
use Rattle.wl_expr.proofs.order.look_at.Given as goal

abbrev pub invariant-loop-arg : goal.invariant-loop-arg
invariant-loop-arg l = AllProper (map plain (take l.arg-index l.args))
