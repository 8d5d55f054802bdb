use Rattle.std.proofs.Common.{refl}
use Rattle.wl_match.proofs.WalkLemmas as lemmas
use Rattle.wl_match.proofs.walk.Walk.first.Goals as goal

pub returns-in-Some : goal.returns-in-Some
returns-in-Some c = let h = rw c.in-Some.is at c.in_ok-goal.ensures in lemmas.takes_some _ _ _ h.0 refl refl refl

pub returns-in-None : goal.returns-in-None
returns-in-None c = lemmas.takes_none _ _ (rw c.in-None.is at c.in_ok-goal.ensures) refl refl refl refl
