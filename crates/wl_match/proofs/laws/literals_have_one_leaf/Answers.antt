use Rattle.wl_match.proofs.LiteralLemmas as law
use Rattle.wl_match.proofs.laws.literals_have_one_leaf.Goals as goal

pub returns : goal.returns
returns c = law.one_leaf
