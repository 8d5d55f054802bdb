use Rattle.std.proofs.Common.{refl}
use Rattle.std.specs.Fmt.{digits}
use Rattle.wl_shape.proofs.laws.worked_fillings.Goals as goal

pub returns : goal.returns
unfolding digits
returns c = ((refl, refl, refl, refl, refl, refl), (refl, refl, refl, refl), (refl, refl, refl, refl, refl))
