use Rattle.std.proofs.Common.{true, false, Some, Ok}
use Rattle.std.proofs.lemmas.Result.{err_from_is_err_and}
use Rattle.wl_expr.specs.Stamped.{plain}
use Rattle.wl_semantics.specs.Prog.{result}
use Rattle.wl_state.proofs.Catching.{end_exit, heard_fits, unheard_fits, valued_goes_on}
use Rattle.wl_state.proofs.quiet_rows.unless_heard.Goals as goal

pub returns-in_err-v : goal.returns-in_err-v
returns-in_err-v c = λ k h g.
    let p = err_from_is_err_and c.from_residual.result c.from_residual.ensures.1 in
    end_exit (λ x. result (elim c.args.heard [ true ↦ plain c.args.other.now | false ↦ x ])) k c.args.end c.valued.result c.from_residual.result _ _ p.1 p.2 c.in_err-v.was c.valued.ensures h

pub returns-then-heard : goal.returns-then-heard
returns-then-heard c = λ k h g.
    valued_goes_on (λ x. result (elim c.args.heard [ true ↦ plain c.args.other.now | false ↦ x ])) k c.args.end c.valued.result c.in_ok-v.v (Ok (Some c.in_ok-copy.field-0)) c.in_ok-v.was c.valued.ensures h
    (λ _. heard_fits k c.args.other.now c.in_ok-v.v c.in_ok-copy.field-0 c.args.heard c.if-heard.true c.in_ok-copy.ensures c.weight-weight.ensures.fits g)

pub returns : goal.returns
returns c = λ k h g.
    valued_goes_on (λ x. result (elim c.args.heard [ true ↦ plain c.args.other.now | false ↦ x ])) k c.args.end c.valued.result c.in_ok-v.v (Ok (Some c.in_ok-v.v)) c.in_ok-v.was c.valued.ensures h
    (λ w. unheard_fits k c.args.other.now c.in_ok-v.v c.args.heard c.if-heard.false c.weight-weight-2.ensures.fits w)
