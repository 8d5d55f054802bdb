use Rattle.std.proofs.Common.{◌≡◌, List, take}
use Rattle.std.specs.List.{All}
use Rattle.wl_expr.specs.Passed.{IsFrom}
use Rattle.wl_expr.specs.Stamped.{Stamped, plain}
use Rattle.wl_match.specs.Runs as runs
use Rattle.wl_state.specs.Played.{trees}
use Rattle.wl_state.proofs.runs.picked.Given as goal

abbrev pub invariant-loop-i : goal.invariant-loop-i
invariant-loop-i l = record {
  value : trees l.elements.items ≡ runs.picked (plain l.e) (take l.i l.places);
  passed : (ms : List Stamped) → IsFrom ms l.e → All (IsFrom ms) l.elements.items;
}
