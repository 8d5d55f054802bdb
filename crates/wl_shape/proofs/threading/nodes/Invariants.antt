use Rattle.std.proofs.Common.{◌≡◌, ◌≤◌, ◌++◌, ◌-◌, List}
use Rattle.wl_expr.specs.Passed.{IsFrom}
use Rattle.wl_expr.specs.Stamped.{Stamped, plain}
use Rattle.wl_expr.specs.Tree.{weights, from_list}
use Rattle.wl_shape.specs.Answers.{AllFrom, trees}
use Rattle.wl_shape.specs.Shape.{threads}
use Rattle.wl_shape.proofs.threading.nodes.Given as goal

abbrev pub invariant-loop-k : goal.invariant-loop-k
invariant-loop-k l = record {
  value : threads (plain l.head) (trees l.args) 0 l.count ≡ trees l.all.items ++ threads (plain l.head) (trees l.args) l.k (l.count - l.k);
  weight : l.weight ≡ weights (from_list (trees l.all.items));
  light : l.weight ≤ 4000000;
  passed : (ms : List Stamped) → IsFrom ms l.head → AllFrom ms l.args → AllFrom ms l.all.items;
}
