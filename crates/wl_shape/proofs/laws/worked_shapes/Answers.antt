use Rattle.std.proofs.Common.{refl}
use Rattle.wl_shape.proofs.laws.worked_shapes.Goals as goal

pub returns : goal.returns
returns c = ((refl, refl, refl, refl, refl, refl), (refl, refl, refl, refl, refl, refl))
