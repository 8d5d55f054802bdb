use Rattle.std.proofs.Common.{Some, Ok, sym, ap, subst, subst₂}
use Rattle.std.specs.Prelude.{unwrap_or}
use Rattle.wl_expr.specs.Passed.{IsFrom}
use Rattle.wl_expr.specs.Stamped.{plain}
use Rattle.wl_expr.specs.Words.{applied}
use Rattle.wl_shape.specs.Answers.{AllFrom}
use Rattle.wl_shape.specs.Renewed.{IsRenewed}
use Rattle.wl_state.specs.Played.{trees}
use Rattle.wl_state.proofs.SlotParts.{node_renewed, node_too_large}
use Rattle.wl_state.proofs.function.rebuilt.Goals as goal

pub returns-in_err-node-in-Some-clause-made : goal.returns-in_err-node-in-Some-clause-made
returns-in_err-node-in-Some-clause-made c =
    let h = c.args.head.now in
    let t = applied (plain h) (trees c.args.elements.now) in
    let r = c.from_residual.result in
    subst₂ (λ o us. IsRenewed t (applied (plain (unwrap_or o h)) (trees us)) r) (sym c.in-Some.is) c.new_or-all.ensures
    (node_too_large t (plain c.in-Some.head) c.new_or-all.result.now c.in_err-node-in-Some.field-0.0 c.node.result r c.in_err-node-in-Some.was c.from_residual.ensures.1 c.node.ensures.large.0)

pub returns-in_err-node-in-None-clause-made : goal.returns-in_err-node-in-None-clause-made
returns-in_err-node-in-None-clause-made c =
    let h = c.args.head.now in
    let t = applied (plain h) (trees c.args.elements.now) in
    let r = c.from_residual-in_err-node-in-None.result in
    subst₂ (λ o us. IsRenewed t (applied (plain (unwrap_or o h)) (trees us)) r) (sym c.in-None.is) c.new_or-all.ensures
    (node_too_large t (plain h) c.new_or-all.result.now c.in_err-node-in-None.field-0.0 c.node-in-None.result r c.in_err-node-in-None.was c.from_residual-in_err-node-in-None.ensures.1 c.node-in-None.ensures.large.0)

pub returns-in_ok-node-in-Some-clause-made : goal.returns-in_ok-node-in-Some-clause-made
returns-in_ok-node-in-Some-clause-made c =
    let h = c.args.head.now in
    let t = applied (plain h) (trees c.args.elements.now) in
    let e = c.in_ok-node-in-Some.field-0 in
    subst₂ (λ o us. IsRenewed t (applied (plain (unwrap_or o h)) (trees us)) (Ok (Some e))) (sym c.in-Some.is) c.new_or-all.ensures
    (node_renewed t (plain c.in-Some.head) c.new_or-all.result.now e (ap plain c.in_ok-node-in-Some.ensures.ok))

pub returns-in_ok-node-in-Some-clause-passed : goal.returns-in_ok-node-in-Some-clause-passed
returns-in_ok-node-in-Some-clause-passed c = λ ms x a.
    c.in_ok-node-in-Some.ensures.passed ms (subst (λ o. IsFrom ms (unwrap_or o c.args.head.now)) c.in-Some.is x) (subst (AllFrom ms) (sym c.new_or-all.ensures) a)

pub returns-in_ok-node-in-None-clause-made : goal.returns-in_ok-node-in-None-clause-made
returns-in_ok-node-in-None-clause-made c =
    let h = c.args.head.now in
    let t = applied (plain h) (trees c.args.elements.now) in
    let e = c.in_ok-node-in-None.field-0 in
    subst₂ (λ o us. IsRenewed t (applied (plain (unwrap_or o h)) (trees us)) (Ok (Some e))) (sym c.in-None.is) c.new_or-all.ensures
    (node_renewed t (plain h) c.new_or-all.result.now e (ap plain c.in_ok-node-in-None.ensures.ok))
