use Rattle.std.proofs.Common.{take}
use Rattle.wl_syntax.specs.Built.{IsNest}
use Rattle.wl_syntax.proofs.lower.nested_after.Given as goal

abbrev pub invariant-loop-operand : goal.invariant-loop-operand
invariant-loop-operand l = IsNest l.sameness l.fn.first (take l.operand-index l.rest) l.pair
