use Rattle.std.proofs.Common.{◌≡◌, ◌++◌, List, drop, map}
use Rattle.wl_expr.specs.Passed.{IsFrom}
use Rattle.wl_expr.specs.Stamped.{Stamped, plain}
use Rattle.wl_lists.specs.Answers.{AllFrom, trees}
use Rattle.wl_lists.specs.Functions.{with_head}
use Rattle.wl_lists.proofs.applying.all_with_head.Given as goal

abbrev pub invariant-loop-element : goal.invariant-loop-element
invariant-loop-element l = record {
  value : map (with_head (plain l.fn.head)) (trees l.elements) ≡ trees l.all.items ++ map (with_head (plain l.fn.head)) (trees (drop l.element-index l.elements));
  passed : (ms : List Stamped) → IsFrom ms l.fn.head → AllFrom ms l.elements → AllFrom ms l.all.items;
}
