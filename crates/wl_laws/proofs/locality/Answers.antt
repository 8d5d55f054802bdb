use Rattle.wl_laws.proofs.Agreement as local
use Rattle.wl_laws.proofs.locality.Goals as goal

pub returns : goal.returns
returns c = local.locality
