use Rattle.std.proofs.Common.{◌≡◌, ◌≤◌, ◌+◌, ◌*◌, drop}
use Rattle.wl_scan.specs.Places.{nesting, run_length, run_place}
use Rattle.wl_scan.proofs.place.Place.run.Given as goal

abbrev pub invariant-loop-count : goal.invariant-loop-count
invariant-loop-count l = record {
  place : run_place l.place (drop l.count l.bytes) ≡ run_place l.initial.place l.bytes;
  run : l.count + run_length l.place (drop l.count l.bytes) ≡ run_length l.initial.place l.bytes;
  depth : l.place.depth ≤ l.initial.place.depth + 2 * l.count;
  nested : nesting l.place.region ≤ nesting l.initial.place.region + l.count;
}
