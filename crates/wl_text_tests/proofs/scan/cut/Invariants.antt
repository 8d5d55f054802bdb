use Rattle.std.proofs.Common.{length}
use Rattle.wl_text_tests.proofs.scan.cut.Given as goal

abbrev pub decreases-loop-rest : goal.decreases-loop-rest
decreases-loop-rest g l = length l.rest
