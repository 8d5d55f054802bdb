use Rattle.std.proofs.Common.{◌≡◌, is_some, drop}
use Rattle.wl_shape.specs.Scopes.{locals_of}
use Rattle.wl_state.specs.Played.{trees}
use Rattle.wl_state.specs.Searching.{needs_values}
use Rattle.wl_state.proofs.guard.are_locals.Given as goal

abbrev pub invariant-loop-i : goal.invariant-loop-i
invariant-loop-i l = is_some (locals_of (needs_values l.need_values) (trees l.args)) ≡ is_some (locals_of (needs_values l.need_values) (trees (drop l.i l.args)))
