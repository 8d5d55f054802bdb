use Rattle.std.proofs.Common.{◌≡◌, ◌∷◌, take}
use Rattle.std.specs.Prelude.{None}
use Rattle.wl_expr.specs.Stamped.{symbol}
use Rattle.wl_syntax.specs.Built.{each}
use Rattle.wl_syntax.specs.Table.{infix_name}
use Rattle.wl_syntax.proofs.lower.separated_after.Given as goal

abbrev pub invariant-loop-operand : goal.invariant-loop-operand
invariant-loop-operand l = l.all.items ≡ l.fn.first ∷ each (symbol None (infix_name l.comparison)) (take l.operand-index l.rest)
