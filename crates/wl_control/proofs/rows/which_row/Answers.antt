use Rattle.std.proofs.Common.{sym, ap, ◌∙◌, arith}
use Rattle.wl_control.proofs.Counts.{which_odd, which_even}
use Rattle.wl_control.specs.Branches.{which_from}
use Rattle.wl_control.specs.Places.{trees}
use Rattle.wl_control.proofs.rows.which_row.Goals as goal

pub returns-then-args-eq1-clause-row : goal.returns-then-args-eq1-clause-row
returns-then-args-eq1-clause-row c = sym (which_odd _ c.if-args-eq1.true)

pub returns-clause-row : goal.returns-clause-row
returns-clause-row c = ap (λ xs. which_from (trees xs)) c.in_ok-queue.ensures ∙ sym (which_even _ c.if-args-eq0.false (omega arith))
