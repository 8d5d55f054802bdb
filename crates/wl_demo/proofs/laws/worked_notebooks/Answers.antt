use Rattle.wl_demo.proofs.Worked.{worked_notebooks}
use Rattle.wl_demo.proofs.laws.worked_notebooks.Goals as goal

pub returns : goal.returns
returns c = worked_notebooks
