use Rattle.wl_match.proofs.LentLemmas as lemmas
use Rattle.wl_match.proofs.lent.same.Goals as goal

pub returns : goal.returns
returns c = lemmas.same_is _ _ _ c.same.ensures
