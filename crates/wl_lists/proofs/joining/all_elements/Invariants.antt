use Rattle.std.proofs.Common.{◌≡◌, ◌++◌, List, drop}
use Rattle.wl_expr.specs.Stamped.{Stamped}
use Rattle.wl_lists.specs.Answers.{AllFrom, trees}
use Rattle.wl_lists.specs.Joining.{elements_of_all}
use Rattle.wl_lists.proofs.joining.all_elements.Given as goal

abbrev pub invariant-loop-arg : goal.invariant-loop-arg
invariant-loop-arg l = record {
  value : elements_of_all (trees l.args) ≡ trees l.all.items ++ elements_of_all (trees (drop l.arg-index l.args));
  passed : (ms : List Stamped) → AllFrom ms l.args → AllFrom ms l.all.items;
}
