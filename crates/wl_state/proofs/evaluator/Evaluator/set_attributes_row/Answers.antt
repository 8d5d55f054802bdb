use Rattle.wl_state.specs.Played.{trees}
use Rattle.wl_state.proofs.RowParts.{row_at}
use Rattle.wl_state.proofs.EntryRowParts.{set_row-changes}
use Rattle.wl_state.proofs.evaluator.Evaluator.set_attributes_row.Goals as goal

pub returns-clause-played : goal.returns-clause-played
returns-clause-played g c = row_at _ _ _ _ _ (set_row-changes (trees c.args.args.now)) c.attributes_changed.ensures.played
