use Rattle.std.proofs.Common.{◌≡◌, ◌+◌, ◌≤◌, min, max, take, drop}
use Rattle.wl_expr.specs.Proper.{IsProper, AreProper}
use Rattle.wl_expr.specs.Stamped.{plain, plains, from_list}
use Rattle.wl_expr.specs.Tree as tree
use Rattle.wl_expr.proofs.expr.measured.Given as goal

abbrev pub invariant-loop-arg : goal.invariant-loop-arg
invariant-loop-arg l = record {
  weight : min (l.weight + tree.weights (plains (from_list (drop l.arg-index l.args)))) 4000001 ≡ min (tree.weight (plain l.head) + tree.weights (plains (from_list l.args))) 4000001;
  depth : max l.depth (tree.depths (plains (from_list (drop l.arg-index l.args)))) ≡ max (tree.depth (plain l.head)) (tree.depths (plains (from_list l.args)));
  capped : l.weight ≤ 4000001;
  small : l.depth ≤ 1000;
  proper_head : IsProper (plain l.head);
  proper_args : AreProper (plains (from_list (take l.arg-index l.args)));
}
