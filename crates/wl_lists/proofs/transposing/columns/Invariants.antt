use Rattle.std.proofs.Common.{◌≡◌, ◌++◌, ◌+◌, ◌-◌, List}
use Rattle.wl_expr.specs.Stamped.{Stamped}
use Rattle.wl_lists.specs.Answers.{AllFrom, trees}
use Rattle.wl_lists.specs.Partitions.{column}
use Rattle.wl_lists.specs.Tabulated.{tabulated}
use Rattle.wl_lists.proofs.transposing.columns.Given as goal

abbrev pub invariant-loop-k : goal.invariant-loop-k
invariant-loop-k l = record {
  value : tabulated (column (trees l.rows)) 0 l.count ≡ trees l.all.items ++ tabulated (column (trees l.rows)) (0 + l.k) (l.count - l.k);
  passed : (ms : List Stamped) → AllFrom ms l.rows → AllFrom ms l.all.items;
}
