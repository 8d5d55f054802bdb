use Rattle.wl_syntax.proofs.Flat.{unless_has, part_needs}
use Rattle.wl_syntax.proofs.Steps.{part_has}
use Rattle.wl_syntax.proofs.machine.Machine.part_with.Goals as goal

pub returns-in-Has : goal.returns-in-Has
returns-in-Has c = part_has _ _ _ c.in-Has.is

pub returns-in_default : goal.returns-in_default
returns-in_default c = unless_has _ part_needs _ _ _ _ _ c.in_default.not-Has
