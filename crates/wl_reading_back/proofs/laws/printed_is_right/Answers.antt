use Rattle.wl_reading_back.proofs.Again as law
use Rattle.wl_reading_back.proofs.laws.printed_is_right.Goals as goal

pub returns : goal.returns
returns c = law.printed_is_right
