use Rattle.wl_exact.proofs.Division.{floor_is_greatest}
use Rattle.wl_exact.proofs.laws.floor_is_greatest.Goals as goal

pub returns : goal.returns
returns c = floor_is_greatest
