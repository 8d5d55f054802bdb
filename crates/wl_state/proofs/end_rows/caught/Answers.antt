use Rattle.wl_state.proofs.Catching.{plainly_caught, plainly_passed, plainly_thrown}
use Rattle.wl_state.proofs.end_rows.caught.Goals as goal

pub returns-in-None : goal.returns-in-None
returns-in-None c = λ k h. plainly_caught k c.args.end c.in-Thrown.v c.in-Thrown.tag c.in-Thrown.is c.in-None.is c.weight-weight.ensures.fits h

pub returns-in-Some : goal.returns-in-Some
returns-in-Some c = λ k h. plainly_thrown k c.args.end c.in-Thrown.v c.in-Thrown.tag c.in-Some.tag c.in-Thrown.is c.in-Some.is h

pub returns-in_default : goal.returns-in_default
returns-in_default c = λ k h. plainly_passed k c.args.end c.passed_on.result c.in_default.not-Thrown (c.passed_on.ensures k h)
