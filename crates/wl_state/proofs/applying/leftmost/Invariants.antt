use Rattle.std.proofs.Common.{◌≡◌}
use Rattle.wl_expr.specs.Stamped.{plain, depth}
use Rattle.wl_expr.specs.Words.{leftmost}
use Rattle.wl_state.proofs.applying.leftmost.Given as goal

abbrev pub invariant-loop-head : goal.invariant-loop-head
invariant-loop-head l = leftmost (plain l.part) ≡ leftmost (plain l.e)

abbrev pub decreases-loop-head : goal.decreases-loop-head
decreases-loop-head l = depth l.part
