use Rattle.std.proofs.Common.{ap}
use Rattle.wl_syntax.proofs.Flat.{unless_open, brace_open, is_brace}
use Rattle.wl_syntax.proofs.Steps.{brace_pops, brace_not}
use Rattle.wl_syntax.proofs.machine.Machine.close_brace.Goals as goal

pub returns-in_default : goal.returns-in_default
returns-in_default c = unless_open _ brace_open _ _ _ _ _ c.in_default.ensures.0

pub returns-in_ok-end_call-in-Brace : goal.returns-in_ok-end_call-in-Brace
returns-in_ok-end_call-in-Brace c = brace_pops _ _ _ _ _ _ _ _ _ _ c.in-Some.ensures.0 c.in-Some.ensures.1 c.in-Some.ensures.2 c.in-Some.ensures.3 (ap is_brace c.in-Brace.is) c.in_ok-end_call-in-Brace.ensures

pub returns-in_ok-end_call-in-BraceMore : goal.returns-in_ok-end_call-in-BraceMore
returns-in_ok-end_call-in-BraceMore c = brace_pops _ _ _ _ _ _ _ _ _ _ c.in-Some.ensures.0 c.in-Some.ensures.1 c.in-Some.ensures.2 c.in-Some.ensures.3 (ap is_brace c.in-BraceMore.is) c.in_ok-end_call-in-BraceMore.ensures

pub returns-in_default-top : goal.returns-in_default-top
returns-in_default-top c = brace_not _ _ _ _ _ _ c.in-Some.ensures.0 c.in-Some.ensures.3 c.in_default-top.not-Brace c.in_default-top.not-BraceMore
