use Rattle.wl_exact.proofs.Products.{product_formed}
use Rattle.wl_exact.proofs.laws.product_is_formed.Goals as goal

pub returns : goal.returns
returns c = product_formed
