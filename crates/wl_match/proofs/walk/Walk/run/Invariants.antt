use Rattle.std.proofs.Common.{◌≡◌, ◌++◌}
use Rattle.wl_expr.specs.Stamped.{plain}
use Rattle.wl_match.specs.Search.{leaves, height}
use Rattle.wl_match.specs.Plays.{now, rest}
use Rattle.wl_match.specs.Serves.{Fits}
use Rattle.wl_match.proofs.walk.Walk.run.Given as goal

abbrev pub invariant-loop-goal : goal.invariant-loop-goal
invariant-loop-goal l = (leaves (now l.pattern (plain l.subject) l.self) ++ rest l.pattern (plain l.subject) l.self ≡ leaves (now l.pattern (plain l.subject) l.initial.self) ++ rest l.pattern (plain l.subject) l.initial.self)
    × (Fits l.pattern (plain l.subject) l.initial.self → Fits l.pattern (plain l.subject) l.self)

abbrev pub decreases-loop-goal : goal.decreases-loop-goal
decreases-loop-goal l = height (now l.pattern (plain l.subject) l.self)
