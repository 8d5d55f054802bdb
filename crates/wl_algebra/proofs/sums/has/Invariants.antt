use Rattle.std.proofs.Common.{◌≡◌, drop}
use Rattle.std.specs.List.{list_any}
use Rattle.wl_expr.specs.Words.{is_the}
use Rattle.wl_algebra.specs.Answers.{trees}
use Rattle.wl_algebra.proofs.sums.has.Given as goal

abbrev pub invariant-loop-arg : goal.invariant-loop-arg
invariant-loop-arg l = list_any (is_the l.name) (trees l.args) ≡ list_any (is_the l.name) (trees (drop l.arg-index l.args))
