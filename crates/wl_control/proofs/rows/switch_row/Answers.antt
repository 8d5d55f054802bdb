use Rattle.std.proofs.Common.{List, length, sym, ap, ◌∙◌, arith}
use Rattle.wl_control.proofs.Counts.{switch_even, switch_odd}
use Rattle.wl_control.proofs.Elements.{front_from}
use Rattle.wl_control.specs.Branches.{switch_row}
use Rattle.wl_control.specs.Places.{trees}
use Rattle.wl_expr.specs.Stamped.{Stamped}
use Rattle.wl_control.proofs.rows.switch_row.Goals as goal

pub returns-then-args-eq0-clause-row : goal.returns-then-args-eq0-clause-row
returns-then-args-eq0-clause-row c = sym (switch_even _ c.if-args-eq0.true)

pub returns-in-Some-clause-row : goal.returns-in-Some-clause-row
returns-in-Some-clause-row c =
    let e = sym c.in_ok-rest.ensures ∙ c.in-Some.ensures.items in
    let n = ap (λ (xs : List Stamped). length xs) e in
    sym (ap (λ xs. switch_row (trees xs)) e ∙ switch_odd _ _ (omega arith) (omega arith))

pub returns-in-Some-clause-passed : goal.returns-in-Some-clause-passed
returns-in-Some-clause-passed c ms h = front_from ms _ _ _ (sym c.in_ok-rest.ensures ∙ c.in-Some.ensures.items) h
