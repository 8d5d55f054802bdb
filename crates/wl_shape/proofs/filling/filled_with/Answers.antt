use Rattle.std.proofs.Common.{◌≡◌, sym, ap, ◌∙◌, subst, arith}
use Rattle.wl_expr.specs.Stamped.{plain}
use Rattle.wl_expr.specs.Tree.{Tree, IsWithinLimits}
use Rattle.wl_shape.specs.Fill.{fill}
use Rattle.wl_shape.specs.Given.{given_values}
use Rattle.wl_shape.specs.Held.{values_in}
use Rattle.wl_shape.proofs.Agreement.{fill-same}
use Rattle.wl_shape.proofs.Faults.{fault_fills}
use Rattle.wl_shape.proofs.filling.filled_with.Goals as goal

pub returns-in_err-e-clause-filled : goal.returns-in_err-e-clause-filled
returns-in_err-e-clause-filled c =
    let u = plain c.args.body.now in
    let same = fill-same u (values_in c.in_ok-values.values) (given_values c.args.given) c.in_ok-values.ensures.agrees in
    fault_fills (fill (given_values c.args.given) u) c.in_err-e.field-0.0 c.filled_by.result c.from_residual-in_err-e.result c.in_err-e.was c.from_residual-in_err-e.ensures.1
    (λ l. subst (λ (t : Tree). ¬ IsWithinLimits t) same (c.filled_by.ensures.made.large l))

pub returns-clause-filled : goal.returns-clause-filled
returns-clause-filled c =
    let u = plain c.args.body.now in
    let same = fill-same u (values_in c.in_ok-values.values) (given_values c.args.given) c.in_ok-values.ensures.agrees in
    let e : plain c.in_ok-e.e ≡ fill (given_values c.args.given) u = c.in_ok-e.ensures.made.tree ∙ same in
    record { is = (e, subst IsWithinLimits e c.weight-weight.ensures.fits); large = λ l. cc }

pub returns-clause-passed : goal.returns-clause-passed
returns-clause-passed c = λ ms f g. c.in_ok-e.ensures.passed ms f (c.in_ok-values.ensures.passed ms g)
