use Rattle.std.proofs.Common.{◌≡◌, false, drop}
use Rattle.wl_scan.specs.Lengths.{beyond, bad_escape}
use Rattle.wl_scan.proofs.lengths.bad_escape.Given as goal

abbrev pub invariant-loop-place : goal.invariant-loop-place
invariant-loop-place l = beyond l.place (bad_escape l.taken (drop l.place l.bytes)) ≡ bad_escape false l.bytes
