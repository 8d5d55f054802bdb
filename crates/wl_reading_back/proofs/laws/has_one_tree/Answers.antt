use Rattle.wl_reading_back.proofs.Again as law
use Rattle.wl_reading_back.proofs.laws.has_one_tree.Goals as goal

pub returns : goal.returns
returns c = law.has_one_tree
