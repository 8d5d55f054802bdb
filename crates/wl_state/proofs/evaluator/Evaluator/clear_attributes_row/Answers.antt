use Rattle.wl_state.specs.Played.{trees}
use Rattle.wl_state.proofs.RowParts.{row_at}
use Rattle.wl_state.proofs.EntryRowParts.{clear_row-changes}
use Rattle.wl_state.proofs.evaluator.Evaluator.clear_attributes_row.Goals as goal

pub returns-clause-played : goal.returns-clause-played
returns-clause-played g c = row_at _ _ _ _ _ (clear_row-changes (trees c.args.args.now)) c.attributes_changed.ensures.played
