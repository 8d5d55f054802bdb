use Rattle.std.proofs.Common.{◌≡◌, take}
use Rattle.wl_match.specs.Sizes.{size_among, size_at}
use Rattle.wl_match.proofs.size.among.Given as goal

abbrev pub invariant-loop-place : goal.invariant-loop-place
invariant-loop-place l = l.all ≡ size_among (size_at l.sizes) (take l.place-index l.places)
