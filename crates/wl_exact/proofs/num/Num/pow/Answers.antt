use Rattle.std.proofs.Common.{rules, ◌≡◌, ◌∙◌, sym, ap, pos, arith, ℕ, ◌^◌, ◌<◌, ℤ, FitsSigned, to_z, of_z}
use Rattle.std.specs.Prelude.{Result, Ok, Err, unsigned_abs}
use Rattle.std.specs.Int.{w128, int_pow}
use Rattle.std.proofs.lemmas.Int.{to_z-of_z, to_z_pos}
use Rattle.wl_exact.specs.declared.num.NumFault.TheVariants.{Overflow}
use Rattle.wl_exact.specs.declared.num.NumFault.{NumFault}
use Rattle.wl_exact.specs.Arithmetic.{formed, reciprocal_of, checked_power}
use Rattle.wl_exact.specs.Fraction.{Fraction}
use Rattle.wl_exact.proofs.Powers.{IsDefined, IsPower, defined_nonzero, defined_above, power_refused_num, power_refused_den, power_formed, power_given, power_given_below, power_parts_reduced, power_den_positive, power_num_nonzero, nonzero_base, power_zero_divisor, power_overflow}
use Rattle.wl_exact.proofs.num.Num.pow.Goals as goal
use Rattle.wl_exact.proofs.num.Num.pow.Goals.{After-unsigned_abs-exponent, In_ok-den, else-self-eq0-via-then-self-eq0+else-n-lt0, else-self-eq0-via-else-self-eq0}

abbrev base : After-unsigned_abs-exponent → Fraction
base c = record { num = c.self.inside.num; den = c.self.inside.den }

size : (c : After-unsigned_abs-exponent) → c.unsigned_abs-exponent.result ≡ unsigned_abs c.args.n
size c =
    let fits : FitsSigned w128 c.args.n = c.ranges.n in
    simp to_z-of_z at c.unsigned_abs-exponent.ensures.value

defined : (c : After-unsigned_abs-exponent) → IsDefined (base c) c.args.n
defined c =
    let fits : FitsSigned w128 c.args.n = c.ranges.n in
    elim c.else-self-eq0.branch [
      | else-self-eq0-via-then-self-eq0+else-n-lt0 w ↦ defined_above (base c) c.args.n (simp to_z-of_z at w.if-n-lt0.false)
      | else-self-eq0-via-else-self-eq0 w ↦ defined_nonzero (base c) c.args.n (λ e. w.if-self-eq0.false (ap (of_z w128) e))
    ]

-- the power of the denominator, as the code has it
den_power : (q k : ℕ) (r : Result ℤ NumFault) → q < 2 ^ 127 → r ≡ formed (int_pow (to_z w128 q) k) → r ≡ formed (pos (q ^ k))
den_power q k r h e = e ∙ ap (λ z. formed (int_pow z k)) (to_z_pos w128 q h)

formed_power : (c : In_ok-den) → IsPower (base (goal.at.number-power-requires-clause-reduced c).After-unsigned_abs-exponent) c.args.n c.in_ok-num.num (unsigned_abs c.in_ok-den.den)
formed_power c =
    let s = (goal.at.number-power-requires-clause-reduced c).After-unsigned_abs-exponent in
    let base_fits : FitsSigned w128 c.self.inside.num = search rules in
    let num = sym (simp to_z-of_z at c.power.ensures) ∙ c.in_ok-num.was in
    let den = sym (den_power _ _ _ c.self.invariant.range.den c.power-2.ensures) ∙ c.in_ok-den.was in
    power_formed (base s) c.args.n _ _ _ (size s) num den

pub returns-in_err-num-clause-answer : goal.returns-in_err-num-clause-answer
returns-in_err-num-clause-answer c =
    let s = (goal.at.returns-in_err-num-clause-answer c).After-unsigned_abs-exponent in
    let base_fits : FitsSigned w128 c.self.inside.num = search rules in
    let num = sym (simp to_z-of_z at c.power.ensures) ∙ c.in_err-num.was in
    let refused : c.from_residual.result ≡ Err Overflow = grind arith in
    refused
    ∙ power_refused_num (base s) c.args.n _ _ (defined s) (size s) num
    ∙ ap (λ (f : Fraction). checked_power f c.args.n) c.self.view_is

pub returns-in_err-num-clause-zero_divisor : goal.returns-in_err-num-clause-zero_divisor
returns-in_err-num-clause-zero_divisor c = power_zero_divisor c.args.self.now c.args.n _ (returns-in_err-num-clause-answer c)

pub returns-in_err-num-clause-overflow : goal.returns-in_err-num-clause-overflow
returns-in_err-num-clause-overflow c = power_overflow c.args.self.now c.args.n _ (returns-in_err-num-clause-answer c)

pub returns-in_err-den-clause-answer : goal.returns-in_err-den-clause-answer
returns-in_err-den-clause-answer c =
    let s = (goal.at.returns-in_err-den-clause-answer c).After-unsigned_abs-exponent in
    let base_fits : FitsSigned w128 c.self.inside.num = search rules in
    let num = sym (simp to_z-of_z at c.power.ensures) ∙ c.in_ok-num.was in
    let den = sym (den_power _ _ _ c.self.invariant.range.den c.power-2.ensures) ∙ c.in_err-den.was in
    let refused : c.from_residual-in_err-den.result ≡ Err Overflow = grind arith in
    refused
    ∙ power_refused_den (base s) c.args.n _ _ _ (defined s) (size s) num den
    ∙ ap (λ (f : Fraction). checked_power f c.args.n) c.self.view_is

pub returns-in_err-den-clause-zero_divisor : goal.returns-in_err-den-clause-zero_divisor
returns-in_err-den-clause-zero_divisor c = power_zero_divisor c.args.self.now c.args.n _ (returns-in_err-den-clause-answer c)

pub returns-in_err-den-clause-overflow : goal.returns-in_err-den-clause-overflow
returns-in_err-den-clause-overflow c = power_overflow c.args.self.now c.args.n _ (returns-in_err-den-clause-answer c)

pub number-power-requires-clause-reduced : goal.number-power-requires-clause-reduced
number-power-requires-clause-reduced c =
    let s = (goal.at.number-power-requires-clause-reduced c).After-unsigned_abs-exponent in
    let num_fits : FitsSigned w128 c.in_ok-num.num = search rules in
    let den_fits : FitsSigned w128 c.in_ok-den.den = search rules in
    simp to_z-of_z (power_parts_reduced (base s) c.args.n _ _ c.self.invariant.reduced (formed_power c))

pub number-power-requires-clause-positive : goal.number-power-requires-clause-positive
number-power-requires-clause-positive c =
    let s = (goal.at.number-power-requires-clause-reduced c).After-unsigned_abs-exponent in
    let den_fits : FitsSigned w128 c.in_ok-den.den = search rules in
    simp to_z-of_z (power_den_positive (base s) c.args.n _ _ c.self.invariant.positive (formed_power c))

pub reciprocal-requires : goal.reciprocal-requires
reciprocal-requires c =
    let s = (goal.at.reciprocal-requires c).After-unsigned_abs-exponent in
    let exponent_fits : FitsSigned w128 c.args.n = c.ranges.n in
    let num_fits : FitsSigned w128 c.in_ok-num.num = search rules in
    let den_fits : FitsSigned w128 c.in_ok-den.den = search rules in
    let value = simp to_z-of_z at c.number-power.ensures in
    let nonzero = nonzero_base (base s) c.args.n (defined s) (simp to_z-of_z at c.if-n-lt0-2.true) in
    λ e. power_num_nonzero (base s) c.args.n _ _ nonzero (formed_power (goal.at.reciprocal-requires c).In_ok-den)
    (sym (ap (λ (f : Fraction). f.num) value) ∙ e)

pub returns-then-n-lt0-2-clause-answer : goal.returns-then-n-lt0-2-clause-answer
returns-then-n-lt0-2-clause-answer c =
    let s = (goal.at.returns-then-n-lt0-2-clause-answer c).After-unsigned_abs-exponent in
    let exponent_fits : FitsSigned w128 c.args.n = c.ranges.n in
    let num_fits : FitsSigned w128 c.in_ok-num.num = search rules in
    let den_fits : FitsSigned w128 c.in_ok-den.den = search rules in
    let value = simp to_z-of_z at c.number-power.ensures in
    let below = simp to_z-of_z at c.if-n-lt0-2.true in
    ap (λ (f : Fraction). Ok f) (c.reciprocal.ensures ∙ ap reciprocal_of value)
    ∙ power_given_below (base s) c.args.n _ _ (formed_power (goal.at.returns-then-n-lt0-2-clause-answer c).In_ok-den) (defined s) below
    ∙ ap (λ (f : Fraction). checked_power f c.args.n) c.self.view_is

pub returns-then-n-lt0-2-clause-zero_divisor : goal.returns-then-n-lt0-2-clause-zero_divisor
returns-then-n-lt0-2-clause-zero_divisor c = power_zero_divisor c.args.self.now c.args.n _ (returns-then-n-lt0-2-clause-answer c)

pub returns-then-n-lt0-2-clause-overflow : goal.returns-then-n-lt0-2-clause-overflow
returns-then-n-lt0-2-clause-overflow c = power_overflow c.args.self.now c.args.n _ (returns-then-n-lt0-2-clause-answer c)

pub returns-else-n-lt0-2-clause-answer : goal.returns-else-n-lt0-2-clause-answer
returns-else-n-lt0-2-clause-answer c =
    let s = (goal.at.returns-else-n-lt0-2-clause-answer c).After-unsigned_abs-exponent in
    let exponent_fits : FitsSigned w128 c.args.n = c.ranges.n in
    let num_fits : FitsSigned w128 c.in_ok-num.num = search rules in
    let den_fits : FitsSigned w128 c.in_ok-den.den = search rules in
    let value = simp to_z-of_z at c.number-power.ensures in
    let above = simp to_z-of_z at c.if-n-lt0-2.false in
    ap (λ (f : Fraction). Ok f) value
    ∙ power_given (base s) c.args.n _ _ (formed_power (goal.at.returns-else-n-lt0-2-clause-answer c).In_ok-den) (defined s) above
    ∙ ap (λ (f : Fraction). checked_power f c.args.n) c.self.view_is

pub returns-else-n-lt0-2-clause-zero_divisor : goal.returns-else-n-lt0-2-clause-zero_divisor
returns-else-n-lt0-2-clause-zero_divisor c = power_zero_divisor c.args.self.now c.args.n _ (returns-else-n-lt0-2-clause-answer c)

pub returns-else-n-lt0-2-clause-overflow : goal.returns-else-n-lt0-2-clause-overflow
returns-else-n-lt0-2-clause-overflow c = power_overflow c.args.self.now c.args.n _ (returns-else-n-lt0-2-clause-answer c)
