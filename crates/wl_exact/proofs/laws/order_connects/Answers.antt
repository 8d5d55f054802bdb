use Rattle.wl_exact.proofs.Order.{cmp_connects}
use Rattle.wl_exact.proofs.laws.order_connects.Goals as goal

pub returns : goal.returns
returns c = cmp_connects
