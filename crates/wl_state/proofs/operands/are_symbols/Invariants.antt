use Rattle.std.proofs.Common.{◌≡◌, is_some, drop}
use Rattle.wl_expr.specs.Words.{names_of}
use Rattle.wl_state.specs.Played.{trees}
use Rattle.wl_state.proofs.operands.are_symbols.Given as goal

abbrev pub invariant-loop-arg : goal.invariant-loop-arg
invariant-loop-arg l = is_some (names_of (trees l.args)) ≡ is_some (names_of (trees (drop l.arg-index l.args)))
