use Rattle.std.proofs.Common.{[], ◌∷◌}
use Rattle.wl_match.specs.Search.{found}
use Rattle.wl_match.specs.Trials.{trials}
use Rattle.wl_match.proofs.Grafts as law
use Rattle.wl_match.proofs.laws.leaves_are_some.Goals as goal

pub returns : goal.returns
returns c = λ p t. law.never_empty (trials p (t ∷ []) found [])
