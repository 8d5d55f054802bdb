use Rattle.wl_exact.proofs.Products.{product_commutes}
use Rattle.wl_exact.proofs.laws.product_commutes.Goals as goal

pub returns : goal.returns
returns c = product_commutes
