use Rattle.wl_syntax.proofs.Steps.{empty_brace_none, empty_brace_pops, empty_brace_not}
use Rattle.wl_syntax.proofs.machine.Machine.empty_brace.Goals as goal

pub returns-in_default : goal.returns-in_default
returns-in_default c = empty_brace_none _ _ _ _ _ c.requires c.in_default.ensures.3

pub returns-in_ok-end_empty-in-Brace : goal.returns-in_ok-end_empty-in-Brace
returns-in_ok-end_empty-in-Brace c = empty_brace_pops _ _ _ _ _ _ _ _ _ c.requires c.in-Some.ensures.1 c.in-Some.ensures.2 c.in-Brace.is c.in_ok-end_empty-in-Brace.ensures

pub returns-in_default-top : goal.returns-in_default-top
returns-in_default-top c = empty_brace_not _ _ _ _ _ _ c.requires c.in-Some.ensures.2 c.in_default-top.not-Brace
