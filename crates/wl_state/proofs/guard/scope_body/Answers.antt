use Rattle.wl_state.proofs.Guarding.{no_scope_body}
use Rattle.wl_state.proofs.guard.scope_body.Goals as goal

pub returns-then-args-ne2 : goal.returns-then-args-ne2
returns-then-args-ne2 c = no_scope_body _ _ c.in-Node.args.now c.in-Node.ensures.plain c.if-args-ne2.true
