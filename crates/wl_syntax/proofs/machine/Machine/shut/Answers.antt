use Rattle.std.proofs.Common.{ap}
use Rattle.wl_syntax.specs.Polish.{token_of}
use Rattle.wl_syntax.proofs.Steps.{shut_square, shut_not, not_close_square}
use Rattle.wl_syntax.proofs.machine.Machine.shut.Goals as goal

pub returns-in-CloseSquare : goal.returns-in-CloseSquare
returns-in-CloseSquare c = shut_square _ _ _ _ c.requires (ap token_of c.in-CloseSquare.is)

pub returns-in_default : goal.returns-in_default
returns-in_default c = shut_not _ _ _ _ c.requires (not_close_square _ c.in_default.not-CloseSquare)
