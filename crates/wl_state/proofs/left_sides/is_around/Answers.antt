use Rattle.std.proofs.Common.{sym, ap, ◌∙◌}
use Rattle.wl_assign.specs.Core.{is_around}
use Rattle.wl_assign.proofs.Forms.{not_around}
use Rattle.wl_state.proofs.left_sides.is_around.Goals as goal

pub returns-in_default : goal.returns-in_default
returns-in_default c = sym (ap is_around (sym c.special_form.ensures) ∙ not_around c.special_form.result c.in_default.not-Condition c.in_default.not-HoldPattern)
