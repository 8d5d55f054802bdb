use Rattle.std.proofs.Common.{ap}
use Rattle.wl_syntax.proofs.Flat.{unless_open, square_open, is_call}
use Rattle.wl_syntax.proofs.Steps.{square_pops, part_pops, square_not}
use Rattle.wl_syntax.proofs.machine.Machine.close_square.Goals as goal

pub returns-in_default : goal.returns-in_default
returns-in_default c = unless_open _ square_open _ _ _ _ _ c.in_default.ensures.0

pub returns-in_ok-end_call-in-Call : goal.returns-in_ok-end_call-in-Call
returns-in_ok-end_call-in-Call c = square_pops _ _ _ _ _ _ _ _ _ _ c.in-Some.ensures.0 c.in-Some.ensures.1 c.in-Some.ensures.2 c.in-Some.ensures.3 (ap is_call c.in-Call.is) c.in_ok-end_call-in-Call.ensures

pub returns-in_ok-end_call-in-CallMore : goal.returns-in_ok-end_call-in-CallMore
returns-in_ok-end_call-in-CallMore c = square_pops _ _ _ _ _ _ _ _ _ _ c.in-Some.ensures.0 c.in-Some.ensures.1 c.in-Some.ensures.2 c.in-Some.ensures.3 (ap is_call c.in-CallMore.is) c.in_ok-end_call-in-CallMore.ensures

pub returns-in_ok-end_part-in-Part : goal.returns-in_ok-end_part-in-Part
returns-in_ok-end_part-in-Part c = part_pops _ _ _ _ _ _ _ _ _ c.in-Some.ensures.0 c.in-Some.ensures.2 c.in-Some.ensures.3 c.in-Part.is c.in_ok-end_part-in-Part.ensures

pub returns-in_default-top : goal.returns-in_default-top
returns-in_default-top c = square_not _ _ _ _ _ _ c.in-Some.ensures.0 c.in-Some.ensures.3 c.in_default-top.not-Call c.in_default-top.not-CallMore c.in_default-top.not-Part
