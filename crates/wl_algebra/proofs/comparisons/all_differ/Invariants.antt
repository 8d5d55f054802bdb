use Rattle.std.proofs.Common.{◌≡◌, [], drop}
use Rattle.wl_algebra.specs.Answers.{trees}
use Rattle.wl_algebra.specs.Comparisons.{all_new}
use Rattle.wl_algebra.proofs.comparisons.all_differ.Given as goal

abbrev pub invariant-loop-arg : goal.invariant-loop-arg
invariant-loop-arg l = all_new [] (trees l.args) ≡ all_new (trees l.met.keys) (trees (drop l.arg-index l.args))
