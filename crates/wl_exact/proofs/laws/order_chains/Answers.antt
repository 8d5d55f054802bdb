use Rattle.wl_exact.proofs.Order.{cmp_chains}
use Rattle.wl_exact.proofs.laws.order_chains.Goals as goal

pub returns : goal.returns
returns c = λ a b c p q r l m. cmp_chains a b c p.positive q.positive r.positive l m
