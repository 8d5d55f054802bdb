use Rattle.wl_stamps.proofs.Versions.{stand_once}
use Rattle.wl_stamps.proofs.laws.names_stand_once.Goals as goal

pub returns : goal.returns
returns c = stand_once
