use Rattle.std.proofs.Common.{◌≡◌, ◌+◌, ◌*◌, ◌++◌, List, drop}
use Rattle.wl_expr.specs.Stamped.{Stamped, plain, plains, from_list}
use Rattle.wl_expr.specs.Tree.{depth, depths}
use Rattle.wl_lists.specs.Answers.{AllFrom, trees}
use Rattle.wl_lists.specs.Flattening.{flattened_in}
use Rattle.wl_lists.proofs.flattening.+flatten.Given as goal

abbrev pub decreases-put : goal.decreases-put
decreases-put l = 2 * depth (plain l.e.now)

abbrev pub decreases-put_all : goal.decreases-put_all
decreases-put_all l = 2 * depths (plains (from_list l.elements.now)) + 1

abbrev pub invariant-put_all-loop-element : goal.invariant-put_all-loop-element
invariant-put_all-loop-element l = record {
  value : trees l.initial.all.items ++ flattened_in (plain l.head) l.levels (plains (from_list l.elements)) ≡ trees l.all.items ++ flattened_in (plain l.head) l.levels (plains (from_list (drop l.element-index l.elements)));
  passed : (ms : List Stamped) → AllFrom ms l.initial.all.items → AllFrom ms l.elements → AllFrom ms l.all.items;
}
