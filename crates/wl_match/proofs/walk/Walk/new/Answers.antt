use Rattle.wl_match.proofs.WalkLemmas as lemmas
use Rattle.wl_match.proofs.walk.Walk.new.Goals as goal

pub returns : goal.returns
returns c = lemmas.empty_is _ c.new.ensures c.new-2.ensures c.new-3.ensures.items
