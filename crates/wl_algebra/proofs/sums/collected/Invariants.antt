use Rattle.std.proofs.Common.{◌≡◌, List, Some, drop}
use Rattle.wl_expr.specs.Stamped.{Stamped}
use Rattle.wl_algebra.specs.Answers.{AllFrom, trees}
use Rattle.wl_algebra.specs.Sums.{collected, no_sum}
use Rattle.wl_algebra.specs.SumsInside.{EntriesFrom, plain_sum}
use Rattle.wl_algebra.proofs.sums.collected.Given as goal

abbrev pub invariant-loop-arg : goal.invariant-loop-arg
invariant-loop-arg l = record {
  value : collected (Some no_sum) (trees l.args) ≡ collected (Some (plain_sum l.sum)) (trees (drop l.arg-index l.args));
  passed : (ms : List Stamped) → AllFrom ms l.args → EntriesFrom ms l.sum.terms.entries;
}
