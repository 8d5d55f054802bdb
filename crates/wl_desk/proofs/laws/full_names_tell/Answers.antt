use Rattle.wl_desk.proofs.FullNames.{full_names_tell}
use Rattle.wl_desk.proofs.laws.full_names_tell.Goals as goal

pub returns : goal.returns
returns c = full_names_tell
