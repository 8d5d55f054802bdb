use Rattle.wl_control.proofs.Faults.{memory_answers}
use Rattle.wl_control.proofs.step.give_symbol.Goals as goal

pub returns-in_err-symbol-clause-answer : goal.returns-in_err-symbol-clause-answer
returns-in_err-symbol-clause-answer c = memory_answers _ _ c.from_residual.ensures.1
