use Rattle.std.proofs.Common.{refl, arith}
use Rattle.wl_control.proofs.Passes.{no_pass, pass_asked}
use Rattle.wl_control.proofs.loops.loop_from.Goals as goal

pub returns-then-state-eq0-clause-answer : goal.returns-then-state-eq0-clause-answer
returns-then-state-eq0-clause-answer c = no_pass _ _ _ _ _ c.if-state-eq0.true c.stay.ensures.answer

pub returns-clause-answer : goal.returns-clause-answer
returns-clause-answer c = pass_asked _ _ _ _ _ (omega arith) (record { next = (refl, refl, λ h. h); large = λ e. cc })
