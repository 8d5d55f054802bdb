use Rattle.std.proofs.Common.{◌≡◌, [], List, drop}
use Rattle.wl_expr.specs.Same.{first_of_each}
use Rattle.wl_expr.specs.Stamped.{Stamped}
use Rattle.wl_lists.specs.Answers.{AllFrom, trees}
use Rattle.wl_lists.proofs.joining.distinct.Given as goal

abbrev pub invariant-loop-element : goal.invariant-loop-element
invariant-loop-element l = record {
  keys : l.met.keys ≡ l.firsts.items;
  value : first_of_each [] (trees l.elements) ≡ first_of_each (trees l.firsts.items) (trees (drop l.element-index l.elements));
  passed : (ms : List Stamped) → AllFrom ms l.elements → AllFrom ms l.firsts.items;
}
