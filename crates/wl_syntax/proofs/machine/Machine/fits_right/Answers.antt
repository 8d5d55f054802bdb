use Rattle.wl_syntax.proofs.Flat.{right_defined, left_none, right_free}
use Rattle.wl_syntax.proofs.machine.Machine.fits_right.Goals as goal

pub returns-in-Some : goal.returns-in-Some
returns-in-Some c = right_defined _ _ _ _ _ c.in-Tag.is c.in-Some.ensures.1 c.defines.ensures

pub returns-in-None : goal.returns-in-None
returns-in-None c = left_none _ _ _ c.in-None.ensures

pub returns-in_default : goal.returns-in_default
returns-in_default c = right_free _ _ c.in_default.not-Tag
