use Rattle.std.proofs.Common.{refl}
use Rattle.wl_scan.proofs.laws.cells_of_examples.Goals as goal

pub returns : goal.returns
returns c = (refl, refl, refl)
