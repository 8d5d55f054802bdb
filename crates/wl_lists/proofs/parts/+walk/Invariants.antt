use Rattle.std.proofs.Common.{◌≡◌, ◌+◌, ◌*◌, drop, length}
use Rattle.wl_expr.specs.Stamped.{plain}
use Rattle.wl_lists.specs.Answers.{trees}
use Rattle.wl_lists.specs.Parts.{failure, fails_among}
use Rattle.wl_lists.proofs.Walks.{AreWalked}
use Rattle.wl_lists.proofs.parts.+walk.Given as goal

abbrev pub decreases-first_failure : goal.decreases-first_failure
decreases-first_failure l = 3 * length l.indices.now

abbrev pub decreases-first_failure_in : goal.decreases-first_failure_in
decreases-first_failure_in l = 3 * length l.further.now + 2

abbrev pub decreases-first_failure_among : goal.decreases-first_failure_among
decreases-first_failure_among l = 3 * length l.further.now + 1

abbrev pub invariant-first_failure_among-loop-index : goal.invariant-first_failure_among-loop-index
invariant-first_failure_among-loop-index l = record {
  value : fails_among (plain l.e) (λ t. failure (trees l.further) t) (trees l.indices) ≡ fails_among (plain l.e) (λ t. failure (trees l.further) t) (trees (drop l.index-index l.indices));
  walked : AreWalked (plain l.e) (λ t. failure (trees l.further) t) l.walked.keys;
}
