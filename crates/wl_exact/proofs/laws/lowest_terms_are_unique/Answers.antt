use Rattle.wl_exact.proofs.Order.{lowest_terms_unique}
use Rattle.wl_exact.proofs.laws.lowest_terms_are_unique.Goals as goal

pub returns : goal.returns
returns c = λ a b p q h k v. lowest_terms_unique a b p q k v
