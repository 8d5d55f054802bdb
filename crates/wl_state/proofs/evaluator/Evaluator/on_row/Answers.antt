use Rattle.wl_state.specs.Played.{trees}
use Rattle.wl_state.proofs.RowParts.{row_at}
use Rattle.wl_state.proofs.HistoryRowParts.{on_row-by}
use Rattle.wl_state.proofs.evaluator.Evaluator.on_row.Goals as goal

pub returns-clause-played : goal.returns-clause-played
returns-clause-played c = row_at _ _ _ _ _ (on_row-by (trees c.args.args.now)) c.switch.ensures.played
