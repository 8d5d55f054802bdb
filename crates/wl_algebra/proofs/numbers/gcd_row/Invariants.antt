use Rattle.std.proofs.Common.{◌≡◌, drop, pos}
use Rattle.std.specs.Prelude.{unsigned_abs}
use Rattle.wl_exact.specs.Fraction.{of_int}
use Rattle.wl_algebra.specs.Answers.{trees}
use Rattle.wl_algebra.specs.Numbers.{gcd_on, gcd_row}
use Rattle.wl_algebra.proofs.numbers.gcd_row.Given as goal

abbrev pub invariant-loop-arg : goal.invariant-loop-arg
invariant-loop-arg l = record {
  whole : l.common ≡ of_int (pos (unsigned_abs l.common.num));
  row : gcd_row (trees l.args) ≡ gcd_on (unsigned_abs l.common.num) (trees (drop l.arg-index l.args));
}
