use Rattle.std.proofs.Common.{◌≡◌, ◌++◌, List, drop}
use Rattle.wl_expr.specs.Passed.{IsFrom}
use Rattle.wl_expr.specs.Stamped.{Stamped, plain}
use Rattle.wl_match.specs.Runs.{picked}
use Rattle.wl_shape.specs.Answers.{AllFrom, trees}
use Rattle.wl_shape.proofs.runs.picked.Given as goal

abbrev pub invariant-loop-place : goal.invariant-loop-place
invariant-loop-place l = record {
  value : picked (plain l.t) l.places ≡ trees l.elements.items ++ picked (plain l.t) (drop l.place-index l.places);
  passed : (ms : List Stamped) → IsFrom ms l.t → AllFrom ms l.elements.items;
}
