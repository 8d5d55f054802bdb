use Rattle.std.proofs.Common.{◌≡◌, true, false, refl}
use Rattle.wl_expr.specs.Stamped.{plain}
use Rattle.wl_control.proofs.Nesting.{fixed_point_ends, fixed_point_goes_on}
use Rattle.wl_control.proofs.nests.fixed_point_on.Goals as goal

pub returns-then-same-clause-answer : goal.returns-then-same-clause-answer
returns-then-same-clause-answer c = fixed_point_ends _ _ _ c.args.nest.passes _ (c.if-same.ensures.0 refl) c.give.ensures.answer

pub returns-clause-answer : goal.returns-clause-answer
returns-clause-answer c =
    fixed_point_goes_on (plain c.args.nest.function) (plain c.args.before) c.args.value.now c.in_ok-copy.field-0 c.args.nest.passes _
    (λ e. let f : false ≡ true = c.if-same.ensures.1 e in cc) c.in_ok-copy.ensures c.fixed_point_from.ensures.answer
