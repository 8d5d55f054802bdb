use Rattle.wl_reading_back.proofs.Again as law
use Rattle.wl_reading_back.proofs.laws.reads_again.Goals as goal

pub returns : goal.returns
returns c = law.reads_again
