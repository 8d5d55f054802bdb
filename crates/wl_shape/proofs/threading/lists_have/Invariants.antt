use Rattle.std.proofs.Common.{◌≡◌, drop}
use Rattle.wl_shape.specs.Answers.{trees}
use Rattle.wl_shape.specs.Shape.{lists_have}
use Rattle.wl_shape.proofs.threading.lists_have.Given as goal

abbrev pub invariant-loop-arg : goal.invariant-loop-arg
invariant-loop-arg l = lists_have l.length (trees l.args) ≡ lists_have l.length (trees (drop l.arg-index l.args))
