use Rattle.std.proofs.Common.{rules, ◌≡◌, pos, arith, ℕ, FitsSigned, to_z, of_z}
use Rattle.std.specs.Prelude.{unsigned_abs, neg_ℤ, ◌-ℤ◌, ◌<◌, ◌^◌}
use Rattle.std.specs.Int.{w128}
use Rattle.std.proofs.lemmas.Int.{ints, to_z-of_z, to_z_pos, fits_signed_from_abs}
use Rattle.wl_exact.proofs.Divisors.{coprime_comm}
use Rattle.wl_exact.proofs.Integers.{unsigned_abs_neg}
use Rattle.wl_exact.proofs.num.Num.reciprocal.Goals as goal

negative_size : (n : ℕ) → n < 2 ^ 127 → unsigned_abs (to_z w128 (of_z w128 (pos 0 -ℤ to_z w128 n))) ≡ n
negative_size n h =
    let is : pos 0 -ℤ to_z w128 n ≡ neg_ℤ (pos n) = omega (arith, ints) in
    let size : unsigned_abs (neg_ℤ (pos n)) < 2 ^ 127 = rw unsigned_abs_neg h in
    let fits : FitsSigned w128 (neg_ℤ (pos n)) = fits_signed_from_abs w128 (neg_ℤ (pos n)) size in
    rw (is, to_z-of_z w128 (neg_ℤ (pos n)) fits) (unsigned_abs_neg n)

pub number-requires-clause-reduced : goal.number-requires-clause-reduced
number-requires-clause-reduced c =
    let den : ℕ = c.self.inside.den in
    let fits : FitsSigned w128 c.self.inside.num = search rules in
    let size = simp to_z-of_z at c.unsigned_abs.ensures.value in
    rw (negative_size den c.self.invariant.range.den, size)
    (coprime_comm (unsigned_abs c.self.inside.num) den c.self.invariant.reduced)

pub number-requires-else-self-lt0-clause-reduced : goal.number-requires-else-self-lt0-clause-reduced
number-requires-else-self-lt0-clause-reduced c =
    let den : ℕ = c.self.inside.den in
    let fits : FitsSigned w128 c.self.inside.num = search rules in
    let size = simp to_z-of_z at c.unsigned_abs-else-self-lt0.ensures.value in
    rw (to_z_pos w128 den c.self.invariant.range.den, size)
    (coprime_comm (unsigned_abs c.self.inside.num) den c.self.invariant.reduced)
