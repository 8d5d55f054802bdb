use Rattle.std.proofs.Common.{Some, Ok}
use Rattle.std.proofs.lemmas.Result.{err_from_is_err_and}
use Rattle.wl_semantics.specs.Prog.{result}
use Rattle.wl_state.proofs.Catching.{end_exit, given_fits, valued_goes_on}
use Rattle.wl_state.proofs.end_rows.passed_on.Goals as goal

pub returns-in_err-v : goal.returns-in_err-v
returns-in_err-v c = λ k h.
    let p = err_from_is_err_and c.from_residual.result c.from_residual.ensures.1 in
    end_exit (λ x. result x) k c.args.end c.valued.result c.from_residual.result _ _ p.1 p.2 c.in_err-v.was c.valued.ensures h

pub returns : goal.returns
returns c = λ k h. valued_goes_on (λ x. result x) k c.args.end c.valued.result c.in_ok-v.v (Ok (Some c.in_ok-v.v)) c.in_ok-v.was c.valued.ensures h (λ g. given_fits k c.in_ok-v.v c.weight-weight.ensures.fits g)
