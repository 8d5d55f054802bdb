use Rattle.std.proofs.Common.{[], refl}
use Rattle.wl_rules.proofs.Arrival.{after_in_order, stand_as_they_came}
use Rattle.wl_rules.proofs.laws.rules_stand_as_they_came.Goals as goal

pub returns-clause-sorted : goal.returns-clause-sorted
returns-clause-sorted c = λ cs. after_in_order cs [] tt

pub returns-clause-stable : goal.returns-clause-stable
returns-clause-stable c = λ cs. stand_as_they_came cs [] [] tt (λ k. refl)
