use Rattle.std.proofs.Common.{◌≡◌, List, drop}
use Rattle.std.specs.List.{All}
use Rattle.wl_expr.specs.Passed.{IsFrom}
use Rattle.wl_expr.specs.Stamped.{Stamped, plain}
use Rattle.wl_match.specs.Parts.{kept}
use Rattle.wl_match.specs.Runs.{follow, root_at}
use Rattle.wl_match.proofs.lent.tree_at.Given as goal

abbrev pub invariant-loop-step : goal.invariant-loop-step
invariant-loop-step l = (follow (drop l.step-index l.place.steps) (plain l.t) ≡ follow l.place.steps (root_at l.pattern (plain l.subject) l.place.root))
    × ((ms : List Stamped) → IsFrom ms l.subject → All (IsFrom ms) (kept l.pattern) → IsFrom ms l.t)
