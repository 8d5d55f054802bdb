use Rattle.std.proofs.Common.{◌≡◌, drop}
use Rattle.std.specs.List.{list_any}
use Rattle.wl_expr.specs.Stamped.{plain}
use Rattle.wl_shape.specs.Answers.{trees}
use Rattle.wl_shape.specs.Elements.{has_head}
use Rattle.wl_shape.proofs.splicing.any_has_head.Given as goal

abbrev pub invariant-loop-arg : goal.invariant-loop-arg
invariant-loop-arg l = list_any (has_head (plain l.head)) (trees l.args) ≡ list_any (has_head (plain l.head)) (trees (drop l.arg-index l.args))
