use Rattle.wl_syntax.proofs.Reading as law
use Rattle.wl_syntax.proofs.laws.one_reading.Goals as goal

pub returns : goal.returns
returns c = law.same
