use Rattle.std.proofs.Common.{◌≡◌, ◌≤◌, ◌-◌, ◌^◌, ℕ, arith, Ok, Err, sym}
use Rattle.std.proofs.lemmas.Option.{slice_get_past}
use Rattle.std.specs.Str.Parse.{digits_value}
use Rattle.wl_desk.proofs.Lent.{lent_item}
use Rattle.wl_desk.proofs.Numerals.{parsed, numeral_positive}
use Rattle.wl_desk.proofs.text.argument.Goals as goal

pub overflow_sub-number : goal.overflow_sub-number
overflow_sub-number c =
    let number = parsed {E = ℕ} c.args.digits.now (Ok c.in-Ok.number) c.in-Ok.ensures.value.0 c.requires in
    omega (arith, number, numeral_positive c.args.digits.now c.requires)

pub returns-in-Ok : goal.returns-in-Ok
returns-in-Ok c =
    let number : c.in-Ok.number ≡ digits_value 10 c.args.digits.now = parsed {E = ℕ} c.args.digits.now (Ok c.in-Ok.number) c.in-Ok.ensures.value.0 c.requires in
    rw (← number) (lent_item c.args.args.now (c.in-Ok.number - 1) c.get.result c.get.ensures.lookup)

pub returns-in-Err : goal.returns-in-Err
returns-in-Err c =
    let large : 2 ^ 64 ≤ digits_value 10 c.args.digits.now = parsed {E = ℕ} c.args.digits.now (Err 0) c.in-Err.ensures.value.0 c.requires in
    sym (slice_get_past c.args.args.now (digits_value 10 c.args.digits.now - 1) (omega arith))
