use Rattle.wl_exact.proofs.Division.{remainder_below}
use Rattle.wl_exact.proofs.laws.remainder_is_below.Goals as goal

pub returns : goal.returns
returns c = remainder_below
