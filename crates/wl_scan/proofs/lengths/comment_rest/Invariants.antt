use Rattle.std.proofs.Common.{◌≡◌, ◌≤◌, ◌+◌, drop}
use Rattle.wl_scan.specs.Places.{nesting}
use Rattle.wl_scan.specs.Lengths.{beyond, comment_rest}
use Rattle.wl_scan.specs.declared.place.Region.TheVariants.{Comment}
use Rattle.wl_scan.proofs.lengths.comment_rest.Given as goal

abbrev pub invariant-loop-place : goal.invariant-loop-place
invariant-loop-place l = record {
  rest : beyond l.place (comment_rest l.region (drop l.place l.bytes)) ≡ comment_rest (Comment 1) l.bytes;
  nested : nesting l.region ≤ 1 + l.place;
}
