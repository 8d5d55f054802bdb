use Rattle.std.proofs.Common.{◌≡◌, ◌++◌, List, drop, map}
use Rattle.wl_expr.specs.Stamped.{Stamped}
use Rattle.wl_lists.specs.Answers.{AllFrom, trees}
use Rattle.wl_lists.specs.PartsInside.{once}
use Rattle.wl_lists.proofs.parts.each_once.Given as goal

abbrev pub invariant-loop-index : goal.invariant-loop-index
invariant-loop-index l = record {
  value : map once (trees l.indices) ≡ trees l.all.items ++ map once (trees (drop l.index-index l.indices));
  passed : (ms : List Stamped) → AllFrom ms l.indices → AllFrom ms l.all.items;
}
