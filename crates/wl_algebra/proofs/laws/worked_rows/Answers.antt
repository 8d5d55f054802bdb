use Rattle.std.proofs.Common.{refl}
use Rattle.wl_algebra.proofs.laws.worked_rows.Goals as goal

pub returns-clause-sums : goal.returns-clause-sums
returns-clause-sums c = record { fractions_add = refl; rests_join = refl; rest_vanishes = refl; one_infinity = refl; two_infinities = refl }

pub returns-clause-products : goal.returns-clause-products
returns-clause-products c = record { bases_join = refl; zero_with_infinity = refl; zero_to_zero = refl; zero_below_zero = refl; powers_of_factors = refl }

pub returns-clause-numbers : goal.returns-clause-numbers
returns-clause-numbers c = record { remainder_below = refl; greatest_in_lists = refl; no_greatest = refl; five_factorial = refl; lengths_differ = refl; symbols_stay = refl; chain_holds = refl; other_names_stay = refl }
