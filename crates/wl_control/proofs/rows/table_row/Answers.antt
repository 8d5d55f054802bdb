use Rattle.std.proofs.Common.{◌≡◌, List, Some, ap, ◌∙◌}
use Rattle.std.proofs.lemmas.Result.{IfOk-weaker}
use Rattle.wl_expr.specs.Stamped.{Stamped}
use Rattle.wl_control.proofs.Iterated.{table_rows}
use Rattle.wl_control.specs.Iterators.{table_row}
use Rattle.wl_control.specs.Places.{iterated_row, row_asks, trees}
use Rattle.wl_control.specs.declared.place.Row.{Row}
use Rattle.wl_control.proofs.rows.table_row.Goals as goal

pub returns-clause-row : goal.returns-clause-row
returns-clause-row c =
    IfOk-weaker c.iterated_row.result
    (λ (r : Row). row_asks r ≡ iterated_row (Some c.new.result) (trees c.args.args.now))
    (λ (r : Row). row_asks r ≡ table_row (trees c.args.args.now))
    (λ r q. q ∙ ap (λ (f : List Stamped). iterated_row (Some f) (trees c.args.args.now)) c.new.ensures ∙ table_rows (trees c.args.args.now))
    c.iterated_row.ensures.row
