use Rattle.std.proofs.Common.{◌≡◌, drop}
use Rattle.wl_shape.specs.Answers.{trees}
use Rattle.wl_shape.specs.Shape.{first_length}
use Rattle.wl_shape.proofs.threading.first_length.Given as goal

abbrev pub invariant-loop-arg : goal.invariant-loop-arg
invariant-loop-arg l = first_length (trees l.args) ≡ first_length (trees (drop l.arg-index l.args))
