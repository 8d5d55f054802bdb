use Rattle.std.proofs.Common.{arith}
use Rattle.wl_state.proofs.Lent.{element_is, element_none}
use Rattle.wl_state.proofs.runs.element_at.Goals as goal

pub returns-then-place-args-clause-value : goal.returns-then-place-args-clause-value
returns-then-place-args-clause-value c =
    element_is _ _ c.in-Node.args.now c.args.place c.index-args-place.result c.index-args-place.result c.in-Node.ensures.plain (omega arith) c.index-args-place.is

pub returns-else-place-args-clause-value : goal.returns-else-place-args-clause-value
returns-else-place-args-clause-value c = element_none _ _ c.in-Node.args.now c.args.place c.in-Node.ensures.plain (omega arith)
