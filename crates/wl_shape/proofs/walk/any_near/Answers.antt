use Rattle.wl_shape.proofs.Fillings.{untouched}
use Rattle.wl_shape.proofs.walk.any_near.Goals as goal
