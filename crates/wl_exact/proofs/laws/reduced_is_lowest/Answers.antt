use Rattle.wl_exact.proofs.LowestTerms.{reduced_is_reduced, reduced_positive, reduced_value}
use Rattle.wl_exact.proofs.laws.reduced_is_lowest.Goals as goal

pub returns : goal.returns
returns c = λ p q h. (reduced_is_reduced p q h, reduced_positive p q h, reduced_value p q)
