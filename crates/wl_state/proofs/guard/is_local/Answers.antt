use Rattle.wl_state.proofs.Guarding.{not_local}
use Rattle.wl_state.proofs.guard.is_local.Goals as goal

pub returns-then-args-ne2 : goal.returns-then-args-ne2
returns-then-args-ne2 c = not_local c.args.needs_value _ _ c.in-Node.args.now c.in-Node.ensures.plain c.if-args-ne2.true
