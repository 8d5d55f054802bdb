use Rattle.std.proofs.Common.{◌≡◌, ◌≤◌, ◌%◌, sym, arith, FitsSigned}
use Rattle.std.specs.Prelude.{unsigned_abs, ◌*ℤ◌}
use Rattle.std.specs.Int.{w128}
use Rattle.std.proofs.lemmas.Int.{to_z-of_z, fits_signed_mul}
use Rattle.wl_exact.proofs.Powers.{formed_large_power, formed_even_power, formed_odd_power}
use Rattle.wl_exact.proofs.whole.power.Goals as goal

pub returns-then-unsigned_abs-gt1 : goal.returns-then-unsigned_abs-gt1
returns-then-unsigned_abs-gt1 c =
    let fits : FitsSigned w128 c.args.base = c.ranges.base in
    let size = simp to_z-of_z at c.unsigned_abs.ensures.value in
    let large : 2 ≤ unsigned_abs c.args.base = omega (arith, size) in
    sym (formed_large_power c.args.base c.args.exponent large c.if-exponent-lt127.false)

pub returns-then-exponent-eq0 : goal.returns-then-exponent-eq0
returns-then-exponent-eq0 c =
    let fits : FitsSigned w128 c.args.base = c.ranges.base in
    let size = simp to_z-of_z at c.unsigned_abs.ensures.value in
    let small : unsigned_abs c.args.base ≤ 1 = omega (arith, size) in
    let square_fits : FitsSigned w128 (c.args.base *ℤ c.args.base) =
    fits_signed_mul w128 c.args.base c.args.base 1 1 small small (omega arith) in
    simp to_z-of_z (sym (formed_even_power c.args.base c.args.exponent small c.if-exponent-lt127.false c.if-exponent-eq0.true))

pub returns-else-exponent-eq0 : goal.returns-else-exponent-eq0
returns-else-exponent-eq0 c =
    let fits : FitsSigned w128 c.args.base = c.ranges.base in
    let size = simp to_z-of_z at c.unsigned_abs.ensures.value in
    let small : unsigned_abs c.args.base ≤ 1 = omega (arith, size) in
    let odd : c.args.exponent % 2 ≡ 1 = omega arith in
    simp to_z-of_z (sym (formed_odd_power c.args.base c.args.exponent small c.if-exponent-lt127.false odd))
