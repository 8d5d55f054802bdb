use Rattle.wl_demo.proofs.Printable.{cells_lines}
use Rattle.wl_demo.proofs.laws.cells_are_lines.Goals as goal

pub returns : goal.returns
returns c = λ n. cells_lines n 0 n
