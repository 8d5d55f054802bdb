use Rattle.std.proofs.Common.{ap}
use Rattle.wl_syntax.proofs.Flat.{unless_open, next_open, is_call, is_brace}
use Rattle.wl_syntax.proofs.Steps.{next_call, next_brace, next_part, next_not}
use Rattle.wl_syntax.proofs.machine.Machine.next_element.Goals as goal

pub returns-in_default : goal.returns-in_default
returns-in_default c = unless_open _ next_open _ _ _ _ _ c.in_default.ensures.0

pub returns-in_ok-go_on_with-in-Call : goal.returns-in_ok-go_on_with-in-Call
returns-in_ok-go_on_with-in-Call c = next_call _ _ _ _ _ _ _ _ _ c.in-Some.ensures.0 c.in-Some.ensures.2 c.in-Some.ensures.3 (ap is_call c.in-Call.is) c.in_ok-go_on_with-in-Call.ensures

pub returns-in_ok-go_on_with-in-CallMore : goal.returns-in_ok-go_on_with-in-CallMore
returns-in_ok-go_on_with-in-CallMore c = next_call _ _ _ _ _ _ _ _ _ c.in-Some.ensures.0 c.in-Some.ensures.2 c.in-Some.ensures.3 (ap is_call c.in-CallMore.is) c.in_ok-go_on_with-in-CallMore.ensures

pub returns-in_ok-go_on_with-in-Brace : goal.returns-in_ok-go_on_with-in-Brace
returns-in_ok-go_on_with-in-Brace c = next_brace _ _ _ _ _ _ _ _ _ c.in-Some.ensures.0 c.in-Some.ensures.2 c.in-Some.ensures.3 (ap is_brace c.in-Brace.is) c.in_ok-go_on_with-in-Brace.ensures

pub returns-in_ok-go_on_with-in-BraceMore : goal.returns-in_ok-go_on_with-in-BraceMore
returns-in_ok-go_on_with-in-BraceMore c = next_brace _ _ _ _ _ _ _ _ _ c.in-Some.ensures.0 c.in-Some.ensures.2 c.in-Some.ensures.3 (ap is_brace c.in-BraceMore.is) c.in_ok-go_on_with-in-BraceMore.ensures

pub returns-in_ok-go_on_with-in-Part : goal.returns-in_ok-go_on_with-in-Part
returns-in_ok-go_on_with-in-Part c = next_part _ _ _ _ _ _ _ _ _ c.in-Some.ensures.0 c.in-Some.ensures.2 c.in-Some.ensures.3 c.in-Part.is c.in_ok-go_on_with-in-Part.ensures

pub returns-in_default-top : goal.returns-in_default-top
returns-in_default-top c = next_not _ _ _ _ _ _ c.in-Some.ensures.0 c.in-Some.ensures.3 c.in_default-top.not-Call c.in_default-top.not-CallMore c.in_default-top.not-Brace c.in_default-top.not-BraceMore c.in_default-top.not-Part
