use Rattle.std.proofs.Common.{◌≡◌, take}
use Rattle.wl_match.specs.Sizes.{sizes_of}
use Rattle.wl_match.proofs.size.all_sizes.Given as goal

abbrev pub invariant-loop-part : goal.invariant-loop-part
invariant-loop-part l = l.sizes.items ≡ sizes_of (take l.part-index l.parts)
