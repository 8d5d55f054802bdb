use Rattle.wl_exact.proofs.Sums.{sum_commutes}
use Rattle.wl_exact.proofs.laws.sum_commutes.Goals as goal

pub returns : goal.returns
returns c = sum_commutes
