use Rattle.std.proofs.Common.{◌≡◌, ◌++◌, List, map, drop}
use Rattle.wl_expr.specs.Stamped.{Stamped}
use Rattle.wl_shape.specs.Answers.{AllFrom}
use Rattle.wl_semantics.specs.Elements.{bare}
use Rattle.wl_state.specs.Played.{trees}
use Rattle.wl_state.proofs.shaping.all_bare.Given as goal

abbrev pub invariant-loop-value : goal.invariant-loop-value
invariant-loop-value l = record {
  value : map bare (trees l.values) ≡ trees l.all.items ++ map bare (trees (drop l.value-index l.values));
  passed : (ms : List Stamped) → AllFrom ms l.values → AllFrom ms l.all.items;
}
