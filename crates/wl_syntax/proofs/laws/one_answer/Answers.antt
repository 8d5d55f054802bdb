use Rattle.wl_syntax.proofs.Unique as law
use Rattle.wl_syntax.proofs.laws.one_answer.Goals as goal

pub returns : goal.returns
returns c = law.one_answer
