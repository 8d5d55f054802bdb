use Rattle.std.proofs.Common.{◌≡◌, ◌++◌, drop}
use Rattle.wl_state.proofs.LocalParts.{values_at}
use Rattle.wl_state.proofs.locals.values_of.Given as goal

abbrev pub invariant-loop-i : goal.invariant-loop-i
invariant-loop-i l = values_at l.locals ≡ l.values.items ++ values_at (drop l.i l.locals)
