use Rattle.wl_expr.specs.Stamped.{plain}
use Rattle.wl_state.proofs.Catching.{abort_caught, abort_passed}
use Rattle.wl_state.proofs.end_rows.after_abort.Goals as goal

pub returns-in_ok-copy-in-Aborted : goal.returns-in_ok-copy-in-Aborted
returns-in_ok-copy-in-Aborted c = λ k h g. abort_caught c.args.other.now k c.args.end c.in_ok-copy-in-Aborted.field-0 c.in-Aborted.is c.in_ok-copy-in-Aborted.ensures c.weight-weight.ensures.fits g

pub returns-in_default : goal.returns-in_default
returns-in_default c = λ k h g. abort_passed (plain c.args.other.now) k c.args.end c.passed_on.result c.in_default.not-Aborted (c.passed_on.ensures k h)
