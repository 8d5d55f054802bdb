use Rattle.std.proofs.Common.{sym}
use Rattle.wl_expr.specs.Stamped.{plain}
use Rattle.wl_state.proofs.Setting.{no_text, text_none, text_some}
use Rattle.wl_state.proofs.set_rows.message_text.Goals as goal

pub returns-in_default-clause-text : goal.returns-in_default-clause-text
returns-in_default-clause-text c = text_none (plain c.args.left.now) (plain c.args.value.now) (no_text _ _ _ c.view.ensures.all c.in_default.not-Text)

pub returns-in_default-message_name-clause-text : goal.returns-in_default-message_name-clause-text
returns-in_default-message_name-clause-text c = text_some (plain c.args.left.now) _ c.in-Text.text.now _ c.in-Text.ensures.plain c.in_default-message_name.ensures.value

pub returns-clause-text : goal.returns-clause-text
returns-clause-text c = text_some (plain c.args.left.now) _ c.in-Text.text.now _ c.in-Text.ensures.plain c.in-Some.ensures.value

pub returns-clause-name : goal.returns-clause-name
returns-clause-name c = c.in-Some.ensures.name

pub returns-clause-value : goal.returns-clause-value
returns-clause-value c = sym c.in-Text.ensures.plain
