use Rattle.wl_syntax.proofs.Steps.{second_none, second_pops, second_not}
use Rattle.wl_syntax.proofs.machine.Machine.second_square.Goals as goal

pub returns-in_default : goal.returns-in_default
returns-in_default c = second_none _ _ _ _ _ c.requires c.in_default.ensures.3

pub returns-in_ok-push-in-Call : goal.returns-in_ok-push-in-Call
returns-in_ok-push-in-Call c = second_pops _ _ _ _ _ _ _ _ c.requires c.in-Some.ensures.0 c.in-Some.ensures.1 c.in-Some.ensures.2 c.in-Call.is c.in_ok-push-in-Call.ensures.items

pub returns-in_default-top : goal.returns-in_default-top
returns-in_default-top c = second_not _ _ _ _ _ _ c.requires c.in-Some.ensures.2 c.in_default-top.not-Call
