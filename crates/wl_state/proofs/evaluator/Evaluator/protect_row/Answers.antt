use Rattle.std.proofs.Common.{true, sym, ap, ◌∙◌}
use Rattle.wl_state.specs.Played.{trees}
use Rattle.wl_state.proofs.RowParts.{row_stays, row_at}
use Rattle.wl_state.proofs.EntryRowParts.{protection_by, protect_row-by}
use Rattle.wl_state.proofs.evaluator.Evaluator.protect_row.Goals as goal

pub returns-in-None-clause-played : goal.returns-in-None-clause-played
returns-in-None-clause-played g c = row_stays _ _ (protect_row-by (trees c.args.args.now) ∙ ap (protection_by true) (sym c.in-None.ensures))

pub returns-in-Some-clause-played : goal.returns-in-Some-clause-played
returns-in-Some-clause-played g c = row_at _ _ _ _ _ (protect_row-by (trees c.args.args.now) ∙ ap (protection_by true) (sym c.in-Some.ensures)) c.protection.ensures.played
