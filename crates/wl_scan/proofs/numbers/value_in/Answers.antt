use Rattle.std.proofs.Common.{◌+◌, ◌*◌, ◌<◌, ◌^◌, ap, ap₂, sym, subst, ◌∙◌, arith}
use Rattle.std.proofs.lemmas.List.{take_all}
use Rattle.wl_scan.specs.Literals.{value_in}
use Rattle.wl_scan.proofs.Values.{value_next, value_stays}
use Rattle.wl_scan.proofs.numbers.value_in.Goals as goal

pub loop-digit-preserved : goal.loop-digit-preserved
loop-digit-preserved c =
    let tens = c.in_ok-checked_mul.ensures.1 ∙ ap (λ b. c.loop-digit.value * b) c.from.ensures in
    let ones = c.from-in-loop-digit.ensures ∙ c.digit_value.ensures in
    let sum = c.in_ok-value.ensures in record {
      so_far =
          value_next c.args.base c.args.digits.now c.loop-digit.digit-index 0 c.loop-digit.value c.in_ok-value.value c.loop-digit-test.true c.loop-digit.invariant.so_far
          (sum.1 ∙ ap₂ (λ x y. x + y) tens ones);
      fits = subst (λ n. n < 2 ^ 128) (sym sum.1) sum.0;
    }

pub returns-in_err-checked_mul : goal.returns-in_err-checked_mul
returns-in_err-checked_mul c =
    let stays = value_stays c.args.base c.args.digits.now c.loop-digit.digit-index 0 c.loop-digit.value c.requires c.loop-digit-test.true c.loop-digit.invariant.so_far in
    let tens = ap (λ b. c.loop-digit.value * b) c.from.ensures in
    rw c.from_residual.ensures (λ fits. c.in_err-checked_mul.ensures (omega (arith, tens, stays, fits)))

pub returns-in_err-value : goal.returns-in_err-value
returns-in_err-value c =
    let stays = value_stays c.args.base c.args.digits.now c.loop-digit.digit-index 0 c.loop-digit.value c.requires c.loop-digit-test.true c.loop-digit.invariant.so_far in
    let tens = c.in_ok-checked_mul.ensures.1 ∙ ap (λ b. c.loop-digit.value * b) c.from.ensures in
    let ones = c.from-in-loop-digit.ensures ∙ c.digit_value.ensures in
    let sum = ap₂ (λ x y. x + y) tens ones in
    rw c.from_residual-in_err-value.ensures (λ fits. c.in_err-value.ensures (omega (arith, sum, stays, fits)))

pub returns : goal.returns
returns c =
    let whole = c.loop-digit.invariant.so_far ∙ ap (value_in c.args.base) (take_all c.loop-digit.digit-index c.args.digits.now c.loop-digit-test.false) in
    (subst (λ n. n < 2 ^ 128) whole c.loop-digit.invariant.fits, whole)
