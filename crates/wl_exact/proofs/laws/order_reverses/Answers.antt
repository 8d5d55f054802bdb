use Rattle.wl_exact.proofs.Order.{cmp_reverses}
use Rattle.wl_exact.proofs.laws.order_reverses.Goals as goal

pub returns : goal.returns
returns c = cmp_reverses
