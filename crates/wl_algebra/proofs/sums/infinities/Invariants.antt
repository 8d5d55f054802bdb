use Rattle.std.proofs.Common.{◌≡◌, ◌+◌, ◌≤◌, drop}
use Rattle.wl_algebra.specs.Answers.{trees}
use Rattle.wl_algebra.specs.Sums.{infinities}
use Rattle.wl_algebra.proofs.sums.infinities.Given as goal

abbrev pub invariant-loop-arg : goal.invariant-loop-arg
invariant-loop-arg l = record {
  count : infinities (trees l.args) ≡ l.count + infinities (trees (drop l.arg-index l.args));
  small : l.count ≤ l.arg-index;
}
