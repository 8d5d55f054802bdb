use Rattle.wl_exact.proofs.Divisors.{gcd_is}
use Rattle.wl_exact.proofs.laws.gcd_is_greatest.Goals as goal

pub returns : goal.returns
returns c = gcd_is
