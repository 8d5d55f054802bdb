use Rattle.std.proofs.Common.{◌≡◌, ◌++◌, List, drop, map, get_or}
use Rattle.wl_expr.specs.Stamped.{Stamped}
use Rattle.wl_expr.specs.Words.{elements}
use Rattle.wl_lists.specs.Answers.{AllFrom, trees}
use Rattle.wl_lists.proofs.transposing.column_of.Given as goal

abbrev pub invariant-loop-row : goal.invariant-loop-row
invariant-loop-row l = record {
  value : map (λ r. get_or (elements r) l.k r) (trees l.rows) ≡ trees l.all.items ++ map (λ r. get_or (elements r) l.k r) (trees (drop l.row-index l.rows));
  passed : (ms : List Stamped) → AllFrom ms l.rows → AllFrom ms l.all.items;
}
