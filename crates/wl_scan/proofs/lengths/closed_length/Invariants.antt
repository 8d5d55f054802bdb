use Rattle.std.proofs.Common.{◌≡◌, false, drop}
use Rattle.wl_scan.specs.Lengths.{beyond, closed_length}
use Rattle.wl_scan.proofs.lengths.closed_length.Given as goal

abbrev pub invariant-loop-place : goal.invariant-loop-place
invariant-loop-place l = beyond l.place (closed_length l.taken (drop l.place l.bytes)) ≡ closed_length false l.bytes
