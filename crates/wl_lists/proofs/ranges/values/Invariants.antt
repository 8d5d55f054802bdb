use Rattle.std.proofs.Common.{◌≡◌, ◌-◌, List}
use Rattle.wl_exact.specs.Span.{first}
use Rattle.wl_expr.specs.Stamped.{Stamped}
use Rattle.wl_lists.specs.Answers.{AllFrom, trees}
use Rattle.wl_lists.specs.Ranges.{values}
use Rattle.wl_lists.specs.RangesInside.{plain_bounds, plain_coming, put_before}
use Rattle.wl_lists.proofs.ranges.values.Given as goal

abbrev pub invariant-loop-made : goal.invariant-loop-made
invariant-loop-made l = record {
  value : put_before (trees l.all.items) (values (l.most - l.made) (plain_bounds l.b) (plain_coming l.coming)) ≡ values l.most (plain_bounds l.b) (first (plain_bounds l.b));
  passed : (ms : List Stamped) → AllFrom ms l.all.items;
}
