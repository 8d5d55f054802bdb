use Rattle.std.proofs.Common.{◌≡◌, ◌≤◌, length, take}
use Rattle.wl_match.specs.Listed.{below}
use Rattle.wl_match.proofs.trace.count_before.Given as goal

abbrev pub decreases-loop-n : goal.decreases-loop-n
decreases-loop-n l = l.n

abbrev pub invariant-loop-n : goal.invariant-loop-n
invariant-loop-n l = (l.n ≤ length l.places) × (below l.len (take l.n l.places) ≡ below l.len l.places)
