use Rattle.wl_syntax.proofs.Flat.{pushed, unless_open, round_open}
use Rattle.wl_syntax.proofs.Steps.{round_pops, round_not}
use Rattle.wl_syntax.proofs.machine.Machine.close_round.Goals as goal

pub returns-in_default : goal.returns-in_default
returns-in_default c = unless_open _ round_open _ _ _ _ _ c.in_default.ensures.0

pub returns-in_ok-push-in-Round : goal.returns-in_ok-push-in-Round
returns-in_ok-push-in-Round c = round_pops _ _ _ _ _ _ _ _ c.in-Some.ensures.0 c.in-Some.ensures.1 c.in-Some.ensures.2 c.in-Some.ensures.3 c.in-Round.is (pushed _ _ _ c.in_ok-push-in-Round.ensures.items)

pub returns-in_default-top : goal.returns-in_default-top
returns-in_default-top c = round_not _ _ _ _ _ _ c.in-Some.ensures.0 c.in-Some.ensures.3 c.in_default-top.not-Round
