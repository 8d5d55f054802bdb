use Rattle.wl_demo.proofs.Worked.{worked_summary}
use Rattle.wl_demo.proofs.laws.worked_summary.Goals as goal

pub returns : goal.returns
returns c = worked_summary
