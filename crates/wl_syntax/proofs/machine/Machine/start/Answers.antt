use Rattle.wl_syntax.proofs.Steps.{start_as_name, start_as_any, unless_wants}
use Rattle.wl_syntax.proofs.machine.Machine.start.Goals as goal

pub returns-in_default : goal.returns-in_default
returns-in_default c = unless_wants _ _ _ _ _ _ c.in_default.not-Wants

pub returns-in_ok-start_name : goal.returns-in_ok-start_name
returns-in_ok-start_name c = start_as_name _ _ _ _ _ _ _ _ c.in-Wants.is c.names_wanted.ensures c.if-names_wanted.true c.in_ok-start_name.ensures

pub returns-in_ok-start_any : goal.returns-in_ok-start_any
returns-in_ok-start_any c = start_as_any _ _ _ _ _ _ _ _ c.in-Wants.is c.names_wanted.ensures c.if-names_wanted.false c.in_ok-start_any.ensures
