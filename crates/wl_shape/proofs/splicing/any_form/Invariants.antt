use Rattle.std.proofs.Common.{◌≡◌, drop}
use Rattle.std.specs.List.{list_any}
use Rattle.wl_expr.specs.Words.{is_form}
use Rattle.wl_shape.specs.Answers.{trees}
use Rattle.wl_shape.proofs.splicing.any_form.Given as goal

abbrev pub invariant-loop-arg : goal.invariant-loop-arg
invariant-loop-arg l = list_any (is_form l.name) (trees l.args) ≡ list_any (is_form l.name) (trees (drop l.arg-index l.args))
