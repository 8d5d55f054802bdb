use Rattle.wl_match.proofs.Grafts as law
use Rattle.wl_match.proofs.laws.leaves_follow.Goals as goal

pub returns : goal.returns
returns c = law.follows_on
