use Rattle.std.proofs.Common.{◌≡◌, ◌≤◌, ◌-◌, Some}
use Rattle.wl_algebra.specs.Factorials.{factorial}
use Rattle.wl_algebra.specs.Ranges.{in_range_only}
use Rattle.wl_algebra.proofs.factorials.factorial.Given as goal

abbrev pub invariant-loop-k : goal.invariant-loop-k
invariant-loop-k l = record {
  within : l.k ≤ l.n;
  product : l.last ≡ factorial l.k;
  small : Some l.last ≡ in_range_only (factorial l.k);
}

abbrev pub decreases-loop-k : goal.decreases-loop-k
decreases-loop-k l = l.n - l.k
