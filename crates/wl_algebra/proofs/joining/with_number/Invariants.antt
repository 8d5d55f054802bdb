use Rattle.std.proofs.Common.{◌≡◌, ◌∷◌, List, take}
use Rattle.wl_expr.specs.Stamped.{Stamped}
use Rattle.wl_expr.specs.Tree.{num}
use Rattle.wl_algebra.specs.Answers.{AllFrom, trees}
use Rattle.wl_algebra.proofs.joining.with_number.Given as goal

abbrev pub invariant-loop-other : goal.invariant-loop-other
invariant-loop-other l = record {
  value : trees l.all.items ≡ num l.fn.n ∷ trees (take l.other-index l.others);
  passed : (ms : List Stamped) → AllFrom ms l.others → AllFrom ms l.all.items;
}
