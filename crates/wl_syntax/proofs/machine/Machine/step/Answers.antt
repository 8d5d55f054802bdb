use Rattle.wl_syntax.proofs.Steps.{step_wants, step_dead}
use Rattle.wl_syntax.proofs.machine.Machine.step.Goals as goal

pub returns-in_ok-start-in-Wants : goal.returns-in_ok-start-in-Wants
returns-in_ok-start-in-Wants c = step_wants _ _ _ _ _ _ _ c.in-Wants.is c.in_ok-start-in-Wants.ensures

pub returns-in-Dead : goal.returns-in-Dead
returns-in-Dead c = step_dead _ _ _ _ c.in-Dead.is
