use Rattle.std.proofs.Common.{◌≡◌, drop}
use Rattle.wl_shape.specs.Answers.{trees}
use Rattle.wl_shape.specs.Locals.{behind, local_names, needs_of}
use Rattle.wl_shape.proofs.scopes.local_names.Given as goal

abbrev pub invariant-loop-e : goal.invariant-loop-e
invariant-loop-e l = local_names (needs_of l.needs) (trees l.elements) ≡ behind (trees l.names.items) (local_names (needs_of l.needs) (trees (drop l.e-index l.elements)))
