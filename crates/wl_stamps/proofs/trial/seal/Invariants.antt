use Rattle.std.proofs.Common.{◌≡◌, take}
use Rattle.wl_stamps.proofs.trial.seal.Given as goal

abbrev pub invariant-loop-k : goal.invariant-loop-k
invariant-loop-k l = l.reads ≡ take l.k l.trial.reads
