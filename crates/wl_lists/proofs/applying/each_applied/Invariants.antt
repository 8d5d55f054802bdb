use Rattle.std.proofs.Common.{◌≡◌, ◌++◌, List, drop}
use Rattle.wl_expr.specs.Passed.{IsFrom}
use Rattle.wl_expr.specs.Stamped.{Stamped, plain}
use Rattle.wl_lists.specs.Answers.{AllFrom, trees}
use Rattle.wl_lists.specs.Functions.{each_applied}
use Rattle.wl_lists.proofs.applying.each_applied.Given as goal

abbrev pub invariant-loop-element : goal.invariant-loop-element
invariant-loop-element l = record {
  value : each_applied (plain l.fn.f) (trees l.elements) ≡ trees l.all.items ++ each_applied (plain l.fn.f) (trees (drop l.element-index l.elements));
  passed : (ms : List Stamped) → IsFrom ms l.fn.f → AllFrom ms l.elements → AllFrom ms l.all.items;
}
