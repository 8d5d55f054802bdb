use Rattle.std.proofs.Common.{◌≡◌, drop}
use Rattle.std.specs.List.{list_all}
use Rattle.wl_algebra.specs.Answers.{trees}
use Rattle.wl_algebra.specs.Sums.{is_number_or_infinity}
use Rattle.wl_algebra.proofs.sums.are_numbers_or_infinities.Given as goal

abbrev pub invariant-loop-arg : goal.invariant-loop-arg
invariant-loop-arg l = list_all is_number_or_infinity (trees l.args) ≡ list_all is_number_or_infinity (trees (drop l.arg-index l.args))
