use Rattle.wl_syntax.proofs.Flat.{left_named, left_none, left_free}
use Rattle.wl_syntax.proofs.machine.Machine.fits_left.Goals as goal

pub returns-in-Some : goal.returns-in-Some
returns-in-Some c = left_named _ _ _ _ _ c.in-Message.is c.in-Some.ensures.1 c.names.ensures

pub returns-in-None : goal.returns-in-None
returns-in-None c = left_none _ _ _ c.in-None.ensures

pub returns-in_default : goal.returns-in_default
returns-in_default c = left_free _ _ c.in_default.not-Message
