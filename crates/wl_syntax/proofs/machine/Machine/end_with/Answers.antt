use Rattle.wl_syntax.proofs.Flat.{pushed, unless_has, end_needs}
use Rattle.wl_syntax.proofs.Steps.{end_has}
use Rattle.wl_syntax.proofs.machine.Machine.end_with.Goals as goal

pub returns-in_ok-push-in-Has : goal.returns-in_ok-push-in-Has
returns-in_ok-push-in-Has c = end_has _ _ _ _ _ c.in-Has.is (pushed _ _ _ c.in_ok-push-in-Has.ensures.items)

pub returns-in_default : goal.returns-in_default
returns-in_default c = unless_has _ (end_needs _) _ _ _ _ _ c.in_default.not-Has
