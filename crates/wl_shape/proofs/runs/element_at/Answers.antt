use Rattle.std.proofs.Common.{arith}
use Rattle.wl_expr.specs.Stamped.{plain}
use Rattle.wl_shape.proofs.Lent.{element_past, element_there}
use Rattle.wl_shape.proofs.runs.element_at.Goals as goal

pub returns-then-place-args-clause-tree : goal.returns-then-place-args-clause-tree
returns-then-place-args-clause-tree c = element_there (plain c.in-Node.field-0.now) (plain c.args.t.now) c.in-Node.args.now c.args.place c.index-args-place.result c.in-Node.ensures.plain c.if-place-args.true c.index-args-place.is

pub returns-else-place-args-clause-tree : goal.returns-else-place-args-clause-tree
returns-else-place-args-clause-tree c = element_past (plain c.in-Node.field-0.now) (plain c.args.t.now) c.in-Node.args.now c.args.place c.in-Node.ensures.plain (omega (arith, c.if-place-args.false))
