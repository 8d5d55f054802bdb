use Rattle.wl_reading_back.proofs.Again as law
use Rattle.wl_reading_back.proofs.laws.parses_back.Goals as goal

pub returns : goal.returns
returns c = law.parses_back
