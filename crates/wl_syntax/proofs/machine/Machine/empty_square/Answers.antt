use Rattle.wl_syntax.proofs.Steps.{empty_square_none, empty_square_pops, empty_square_not}
use Rattle.wl_syntax.proofs.machine.Machine.empty_square.Goals as goal

pub returns-in_default : goal.returns-in_default
returns-in_default c = empty_square_none _ _ _ _ _ c.requires c.in_default.ensures.3

pub returns-in_ok-end_empty-in-Call : goal.returns-in_ok-end_empty-in-Call
returns-in_ok-end_empty-in-Call c = empty_square_pops _ _ _ _ _ _ _ _ _ c.requires c.in-Some.ensures.1 c.in-Some.ensures.2 c.in-Call.is c.in_ok-end_empty-in-Call.ensures

pub returns-in_default-top : goal.returns-in_default-top
returns-in_default-top c = empty_square_not _ _ _ _ _ _ c.requires c.in-Some.ensures.2 c.in_default-top.not-Call
