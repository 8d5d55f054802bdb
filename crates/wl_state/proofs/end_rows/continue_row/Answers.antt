use Rattle.wl_state.proofs.Catching.{continue_more, continue_none, no_items}
use Rattle.wl_state.proofs.RowParts.{row_stays}
use Rattle.wl_state.proofs.end_rows.continue_row.Goals as goal

pub returns-then-args-ne0 : goal.returns-then-args-ne0
returns-then-args-ne0 c = λ k. row_stays _ k (continue_more c.args.args.now c.if-args-ne0.true)

pub returns : goal.returns
returns c = λ k. continue_none k c.args.args.now (no_items c.args.args.now c.if-args-ne0.false)
