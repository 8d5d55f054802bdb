use Rattle.wl_demo.proofs.Cells.{length-cells_after}
use Rattle.wl_demo.proofs.laws.cells_are_counted.Goals as goal

pub returns : goal.returns
returns c = λ n. length-cells_after n 0 n
