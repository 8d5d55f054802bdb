use Rattle.std.proofs.Common.{◌≡◌, drop}
use Rattle.wl_algebra.specs.Answers.{trees}
use Rattle.wl_algebra.specs.Comparisons.{comparison_row}
use Rattle.wl_algebra.specs.Kinds.{relation_by}
use Rattle.wl_algebra.proofs.Chains.{compared_on}
use Rattle.wl_algebra.proofs.comparisons.comparison_row.Given as goal

abbrev pub invariant-loop-arg : goal.invariant-loop-arg
invariant-loop-arg l = comparison_row (relation_by l.relation) (trees l.args) ≡ compared_on (relation_by l.relation) l.all_hold l.previous (trees (drop l.arg-index l.rest))
