use Rattle.std.proofs.Common.{◌≡◌, ◌||◌, ◌&&◌, not, drop}
use Rattle.wl_expr.specs.Words.{Name}
use Rattle.wl_shape.specs.Names.{has_name}
use Rattle.wl_shape.proofs.reaching.others.Given as goal

abbrev pub invariant-loop-target : goal.invariant-loop-target
invariant-loop-target l = (x : Name) → (has_name l.targets.keys x && not (has_name l.names x)) ≡ (has_name l.others.keys x || (has_name (drop l.target-index l.targets.keys) x && not (has_name l.names x)))
