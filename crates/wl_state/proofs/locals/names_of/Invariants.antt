use Rattle.std.proofs.Common.{◌≡◌, ◌++◌, drop}
use Rattle.wl_state.proofs.LocalParts.{names_at}
use Rattle.wl_state.proofs.locals.names_of.Given as goal

abbrev pub invariant-loop-i : goal.invariant-loop-i
invariant-loop-i l = names_at l.locals ≡ l.names.items ++ names_at (drop l.i l.locals)
