use Rattle.std.proofs.Common.{◌≡◌, ◌++◌, List, drop, map}
use Rattle.wl_expr.specs.Stamped.{Stamped}
use Rattle.wl_shape.specs.Answers.{AllFrom, trees}
use Rattle.wl_shape.specs.Shape.{corresponding}
use Rattle.wl_shape.proofs.threading.all_corresponding.Given as goal

abbrev pub invariant-loop-arg : goal.invariant-loop-arg
invariant-loop-arg l = record {
  value : map (corresponding l.k) (trees l.args) ≡ trees l.all.items ++ map (corresponding l.k) (trees (drop l.arg-index l.args));
  passed : (ms : List Stamped) → AllFrom ms l.args → AllFrom ms l.all.items;
}
