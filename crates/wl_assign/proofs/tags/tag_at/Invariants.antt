use Rattle.std.proofs.Common.{◌+◌, ◌≡◌, length, take}
use Rattle.wl_assign.specs.Kinds.{found_in}
use Rattle.wl_assign.proofs.tags.tag_at.Given as goal

abbrev pub invariant-loop-place : goal.invariant-loop-place
invariant-loop-place l = l.left + length (found_in (take l.place l.args)) ≡ l.k
