use Rattle.wl_exact.proofs.Division.{quotient_and_remainder}
use Rattle.wl_exact.proofs.laws.quotient_and_remainder.Goals as goal

pub returns : goal.returns
returns c = quotient_and_remainder
