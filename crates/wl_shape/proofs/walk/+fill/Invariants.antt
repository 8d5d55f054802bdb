use Rattle.std.proofs.Common.{◌≡◌, ◌≤◌, ◌+◌, ◌*◌, ◌++◌, max, List, length, take, drop}
use Rattle.wl_expr.specs.Passed.{IsFrom}
use Rattle.wl_expr.specs.Stamped.{Stamped, plain, plains, from_list}
use Rattle.wl_expr.specs.Tree.{depth, depths, to_list}
use Rattle.wl_shape.specs.Answers.{AllFrom, trees}
use Rattle.wl_shape.specs.Fill.{fill_all, fill_formals}
use Rattle.wl_shape.specs.Held.{ValuesFrom, values_in}
use Rattle.wl_shape.proofs.walk.+fill.Given as goal

abbrev pub decreases-filled : goal.decreases-filled
decreases-filled l = 10 * depth (plain l.e.now)

abbrev pub decreases-filled_args : goal.decreases-filled_args
decreases-filled_args l = 10 * depths (plains (from_list l.args.now)) + 5

abbrev pub decreases-filled_all : goal.decreases-filled_all
decreases-filled_all l = 10 * depths (plains (from_list l.args.now)) + 1

abbrev pub decreases-filled_scope : goal.decreases-filled_scope
decreases-filled_scope l = 10 * depths (plains (from_list l.args.now)) + 4

abbrev pub decreases-filled_pair : goal.decreases-filled_pair
decreases-filled_pair l = 10 * depths (plains (from_list l.args.now)) + 3

abbrev pub decreases-filled_first : goal.decreases-filled_first
decreases-filled_first l = 10 * depth (plain l.first.now) + 1

abbrev pub decreases-filled_formals : goal.decreases-filled_formals
decreases-filled_formals l = 10 * depths (plains (from_list l.formals.now)) + 2

abbrev pub decreases-filled_formal : goal.decreases-filled_formal
decreases-filled_formal l = 10 * depth (plain l.formal.now) + 1

abbrev pub decreases-filled_setting : goal.decreases-filled_setting
decreases-filled_setting l = 10 * max (depth (plain l.head.now)) (depths (plains (from_list l.parts.now))) + 2

abbrev pub invariant-filled_all-loop-k : goal.invariant-filled_all-loop-k
invariant-filled_all-loop-k l = record {
  few : length l.all.items ≤ l.k;
  value : to_list (fill_all (values_in l.values) (plains (from_list l.args))) ≡ trees (l.all.items ++ drop (length l.all.items) (take l.k l.args)) ++ to_list (fill_all (values_in l.values) (plains (from_list (drop l.k l.args))));
  passed : (ms : List Stamped) → AllFrom ms l.args → ValuesFrom ms l.values → AllFrom ms l.all.items;
}

abbrev pub invariant-filled_formals-loop-k : goal.invariant-filled_formals-loop-k
invariant-filled_formals-loop-k l = record {
  few : length l.all.items ≤ l.k;
  value : to_list (fill_formals (values_in l.values) (values_in l.renamed) (plains (from_list l.formals)))
      ≡ trees (l.all.items ++ drop (length l.all.items) (take l.k l.formals)) ++ to_list (fill_formals (values_in l.values) (values_in l.renamed) (plains (from_list (drop l.k l.formals))));
  passed : (ms : List Stamped) → AllFrom ms l.formals → ValuesFrom ms l.values → ValuesFrom ms l.renamed → AllFrom ms l.all.items;
}
