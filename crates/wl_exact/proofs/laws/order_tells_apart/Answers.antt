use Rattle.wl_exact.proofs.Order.{cmp_equal, cmp_of_same}
use Rattle.wl_exact.proofs.laws.order_tells_apart.Goals as goal

pub returns : goal.returns
returns c = λ a b p q. (cmp_equal a b p.reduced q.reduced q.positive, cmp_of_same a b)
