use Rattle.std.proofs.Common.{◌≡◌, length}
use Rattle.wl_algebra.specs.Answers.{trees}
use Rattle.wl_algebra.specs.Comparisons.{inequality_row}
use Rattle.wl_algebra.proofs.Chains.{chain_on}
use Rattle.wl_algebra.proofs.comparisons.inequality_row.Given as goal

abbrev pub invariant-loop-left : goal.invariant-loop-left
invariant-loop-left l = inequality_row (trees l.args) ≡ chain_on l.all_hold l.previous (trees l.left)

abbrev pub decreases-loop-left : goal.decreases-loop-left
decreases-loop-left l = length l.left
