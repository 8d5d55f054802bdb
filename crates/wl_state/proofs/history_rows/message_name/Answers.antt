use Rattle.std.proofs.Common.{sym, ◌∙◌}
use Rattle.wl_state.proofs.Symbols.{no_node}
use Rattle.wl_state.proofs.HistoryRowParts.{message_named, message_unnamed, message_other}
use Rattle.wl_state.proofs.history_rows.message_name.Goals as goal

pub returns-in_default-clause-value : goal.returns-in_default-clause-value
returns-in_default-clause-value c = message_other _ (no_node _ _ _ c.view.ensures.all c.in_default.not-Node)

pub returns-then-not-is_symbol-clause-value : goal.returns-then-not-is_symbol-clause-value
returns-then-not-is_symbol-clause-value c = message_unnamed _ c.in-Node.args.now _ (sym c.is_symbol.ensures ∙ c.if-not-is_symbol.true) c.in-Node.ensures.plain

pub returns-clause-value : goal.returns-clause-value
returns-clause-value c = c.name_and_text.ensures.value ∙ message_named _ c.in-Node.args.now _ (sym c.is_symbol.ensures ∙ c.if-not-is_symbol.false) c.in-Node.ensures.plain
