use Rattle.std.proofs.Common.{◌≡◌, ◌-◌, length}
use Rattle.std.specs.Str.{IsCharBoundary}
use Rattle.wl_scan.specs.Scanning.{to_come}
use Rattle.wl_scan.proofs.tokens.next_at.Given as goal

abbrev pub invariant-loop-place : goal.invariant-loop-place
invariant-loop-place l = record {
  boundary : IsCharBoundary l.text l.place;
  same : to_come l.text l.initial.place ≡ to_come l.text l.place;
}

abbrev pub decreases-loop-place : goal.decreases-loop-place
decreases-loop-place l = length l.text - l.place
