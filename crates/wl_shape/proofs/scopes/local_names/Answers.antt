use Rattle.std.proofs.Common.{sym, ◌∙◌, arith}
use Rattle.wl_expr.specs.Stamped.{plain}
use Rattle.wl_shape.specs.Answers.{trees}
use Rattle.wl_shape.specs.Locals.{needs_of}
use Rattle.wl_shape.proofs.Parameters.{listed_locals, no_local, all_local}
use Rattle.wl_shape.proofs.scopes.local_names.Goals as goal

pub returns-in-None : goal.returns-in-None
returns-in-None c =
    let k = needs_of c.args.needs in
    no_local k c.in-Some.elements.now c.loop-e.names.items c.loop-e.e-index c.e-item.result _ c.loop-e-test.true c.e-item.is c.loop-e.invariant c.in-None.ensures
    ∙ sym (listed_locals k (plain c.args.first.now) (trees c.in-Some.elements.now) c.in-Some.ensures.value)

pub returns : goal.returns
returns c =
    let k = needs_of c.args.needs in
    all_local k c.in-Some.elements.now c.loop-e.names.items c.loop-e.e-index _ (omega (arith, c.loop-e-test.false)) c.loop-e.invariant
    ∙ sym (listed_locals k (plain c.args.first.now) (trees c.in-Some.elements.now) c.in-Some.ensures.value)
