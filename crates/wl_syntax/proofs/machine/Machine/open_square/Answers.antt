use Rattle.wl_syntax.proofs.Flat.{unless_has, square_needs}
use Rattle.wl_syntax.proofs.Steps.{square_has}
use Rattle.wl_syntax.proofs.machine.Machine.open_square.Goals as goal

pub returns-in_ok-push-in-Has : goal.returns-in_ok-push-in-Has
returns-in_ok-push-in-Has c = square_has _ _ _ _ c.in-Has.is c.in_ok-push-in-Has.ensures.items

pub returns-in_default : goal.returns-in_default
returns-in_default c = unless_has _ square_needs _ _ _ _ _ c.in_default.not-Has
