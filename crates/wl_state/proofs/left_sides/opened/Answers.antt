use Rattle.std.proofs.Common.{None, subst}
use Rattle.wl_expr.specs.Stamped.{from_list, node}
use Rattle.wl_expr.proofs.Passing.{all_from}
use Rattle.wl_shape.specs.Answers.{ShapedIsFrom}
use Rattle.wl_state.proofs.Values.{built_honest, passed_honest}
use Rattle.wl_state.proofs.left_sides.opened.Goals as goal

pub returns-in-Ok-Node-clause-honest : goal.returns-in-Ok-Node-clause-honest
returns-in-Ok-Node-clause-honest c a h x =
    let es = c.args.elements.now in
    passed_honest a (node None c.args.head.now (from_list es)) c.in-Ok-Node.e (λ ms g. subst (ShapedIsFrom ms) c.in-Ok-Node.field-0-is (c.in-Ok-Node.ensures.passed ms g.0 (all_from ms es g.1))) (built_honest a c.args.head.now es h x)
