use Rattle.std.proofs.Common.{Bor, List, ℕ, Ok, Some, option_map, sym, ap, ◌∙◌}
use Rattle.wl_expr.specs.Stamped.{plain}
use Rattle.wl_state.specs.Operands.{as_message}
use Rattle.wl_state.specs.Played.{trees}
use Rattle.wl_state.proofs.RowParts.{row_stays, row_null, row_at}
use Rattle.wl_state.proofs.HistoryRowParts.{message_row-none, message_row-more, message_row-other, message_plays}
use Rattle.wl_state.proofs.evaluator.Evaluator.message_row.Goals as goal

pub returns-in_default-clause-played : goal.returns-in_default-clause-played
returns-in_default-clause-played g c = row_stays _ _ (message_row-none c.args.args.now c.in_default.ensures.cases)

pub returns-in_default-message_name-clause-played : goal.returns-in_default-message_name-clause-played
returns-in_default-message_name-clause-played g c =
    row_stays _ _ (message_row-other (trees c.args.args.now) (trees c.in-Some.rest.now) (plain c.in-Some.first.now) (ap trees c.in-Some.ensures.cases.0)
    (sym c.message_name.ensures.value ∙ ap (option_map (λ (p : Bor (List ℕ) × Bor (List ℕ)). as_message (p.0.now, p.1.now))) c.in_default-message_name.is))

pub returns-clause-played : goal.returns-clause-played
returns-clause-played g c =
    let m = as_message (c.in-Some-message_name.name.now, c.in-Some-message_name.tag.now) in
    let ts = trees c.in-Some.rest.now in
    row_at _ _ c.args.self.now (Ok (Some c.in_ok-null.field-0)) c.issue.new.self (message_row-more (trees c.args.args.now) ts (plain c.in-Some.first.now) m (ap trees c.in-Some.ensures.cases.0) c.in-Some-message_name.ensures.value)
    (row_null _ _ _ c.in_ok-null.field-0 c.in_ok-null.ensures (message_plays m ts _ _ c.in_ok-issue.ensures.played))
