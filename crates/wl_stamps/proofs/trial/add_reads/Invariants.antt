use Rattle.std.proofs.Common.{◌≡◌, ◌++◌, length, take}
use Rattle.wl_stamps.specs.Composition.{IsOneVersionEach}
use Rattle.wl_stamps.specs.Reads.{all_noted}
use Rattle.wl_stamps.proofs.trial.add_reads.Given as goal

abbrev pub invariant-loop-k : goal.invariant-loop-k
invariant-loop-k l = (l.reads ≡ all_noted l.fn.reads (take l.k l.part)) × (l.before ≡ length l.fn.reads) × IsOneVersionEach (l.fn.reads ++ take l.k l.part)
