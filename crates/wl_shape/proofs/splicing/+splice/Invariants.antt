use Rattle.std.proofs.Common.{◌≡◌, ◌++◌, ◌+◌, ◌*◌, List, drop}
use Rattle.wl_expr.specs.Stamped.{Stamped, plain, plains, from_list}
use Rattle.wl_expr.specs.Tree.{depth, depths}
use Rattle.wl_shape.specs.Answers.{AllFrom, trees}
use Rattle.wl_shape.specs.Shape.{spliced_list}
use Rattle.wl_shape.proofs.splicing.+splice.Given as goal

abbrev pub decreases-splice : goal.decreases-splice
decreases-splice l = 2 * depth (plain l.e.now)

abbrev pub decreases-splice_all : goal.decreases-splice_all
decreases-splice_all l = 2 * depths (plains (from_list l.args.now)) + 1

abbrev pub invariant-splice_all-loop-arg : goal.invariant-splice_all-loop-arg
invariant-splice_all-loop-arg l = record {
  value : trees l.fn.all.items ++ spliced_list (plain l.head) (trees l.args) ≡ trees l.all.items ++ spliced_list (plain l.head) (trees (drop l.arg-index l.args));
  passed : (ms : List Stamped) → AllFrom ms l.fn.all.items → AllFrom ms l.args → AllFrom ms l.all.items;
}
