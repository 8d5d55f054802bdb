use Rattle.std.proofs.Common.{◌≡◌, drop}
use Rattle.std.specs.List.{list_all}
use Rattle.wl_expr.specs.Stamped.{plain}
use Rattle.wl_lists.specs.Answers.{trees}
use Rattle.wl_lists.specs.Joining.{has_head}
use Rattle.wl_lists.proofs.joining.all_have_head.Given as goal

abbrev pub invariant-loop-arg : goal.invariant-loop-arg
invariant-loop-arg l = list_all (has_head (plain l.head)) (trees l.args) ≡ list_all (has_head (plain l.head)) (trees (drop l.arg-index l.args))
