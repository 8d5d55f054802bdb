use Rattle.std.proofs.Common.{refl}
use Rattle.wl_assign.proofs.laws.worked_left_sides.Goals as goal

pub returns : goal.returns
returns c = (
  (refl, refl, refl, refl, refl),
  (refl, refl, refl, refl, refl),
  (refl, refl, refl),
  (refl, refl, refl, refl, refl, refl, refl, refl),
)
