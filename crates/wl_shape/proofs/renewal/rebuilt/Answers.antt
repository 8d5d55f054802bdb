use Rattle.std.proofs.Common.{sym, subst}
use Rattle.std.specs.Prelude.{unwrap_or}
use Rattle.wl_expr.specs.Passed.{IsFrom}
use Rattle.wl_shape.specs.Answers.{AllFrom}
use Rattle.wl_shape.specs.Renewed.{elements_or}
use Rattle.wl_shape.proofs.renewal.rebuilt.Goals as goal

pub returns-in-Some-new_head-clause-passed : goal.returns-in-Some-new_head-clause-passed
returns-in-Some-new_head-clause-passed c = λ ms h a.
    c.in_ok-node-in-Some-new_head.ensures.passed ms (subst (λ o. IsFrom ms (unwrap_or o c.args.head.now)) c.in-Some-new_head.is h)
    (subst (AllFrom ms) (sym c.as_slice.ensures.value) (subst (λ o. AllFrom ms (elements_or o c.args.args.now)) c.in-Some.is a))

pub returns-in-Some-new_head-2-clause-passed : goal.returns-in-Some-new_head-2-clause-passed
returns-in-Some-new_head-2-clause-passed c = λ ms h a.
    c.in_ok-node-in-Some-new_head-2.ensures.passed ms (subst (λ o. IsFrom ms (unwrap_or o c.args.head.now)) c.in-Some-new_head-2.is h)
    (subst (λ o. AllFrom ms (elements_or o c.args.args.now)) c.in-None.is a)
