use Rattle.std.proofs.Common.{Bor, List, ℕ, option_map, sym, ap, ◌∙◌}
use Rattle.wl_semantics.specs.MessageRows as rows
use Rattle.wl_state.specs.Operands.{as_message}
use Rattle.wl_state.proofs.RowParts.{row_stays, row_null}
use Rattle.wl_state.proofs.HistoryRowParts.{switch_plays}
use Rattle.wl_state.proofs.evaluator.Evaluator.switch.Goals as goal

pub returns-in_default-clause-played : goal.returns-in_default-clause-played
returns-in_default-clause-played c =
    row_stays _ _ (ap (rows.switch_by c.args.off) (sym c.only_message.ensures ∙ ap (option_map (λ (p : Bor (List ℕ) × Bor (List ℕ)). as_message (p.0.now, p.1.now))) c.in_default.is))

pub returns-clause-played : goal.returns-clause-played
returns-clause-played c =
    row_null _ _ _ c.in_ok-null.field-0 c.in_ok-null.ensures (switch_plays c.args.off _ (as_message (c.in-Some.name.now, c.in-Some.tag.now)) _ _ c.in-Some.ensures c.in_ok-set_off.ensures.played)
