use Rattle.std.proofs.Common.{◌∙◌}
use Rattle.wl_state.proofs.Guarding.{no_condition, condition_is}
use Rattle.wl_state.proofs.guard.is_condition.Goals as goal

pub returns-then-args-ne2 : goal.returns-then-args-ne2
returns-then-args-ne2 c = no_condition _ _ c.in-Node.args.now c.in-Node.ensures.plain c.if-args-ne2.true

pub returns : goal.returns
returns c = c.is_symbol.ensures ∙ condition_is _ _ c.in-Node.args.now c.in-Node.ensures.plain c.if-args-ne2.false
