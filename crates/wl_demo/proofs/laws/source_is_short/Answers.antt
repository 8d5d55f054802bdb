use Rattle.std.proofs.Common.{arith}
use Rattle.wl_demo.proofs.Short.{lines_short}
use Rattle.wl_demo.proofs.laws.source_is_short.Goals as goal

pub returns : goal.returns
returns c = λ n small. lines_short n 0 n (omega (arith, small))
