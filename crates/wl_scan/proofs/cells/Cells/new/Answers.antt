use Rattle.std.proofs.Common.{arith, sym, ◌∙◌}
use Rattle.wl_scan.proofs.Pieces.{between-IsCutting}
use Rattle.wl_scan.proofs.cells.Cells.new.Goals as goal

pub invariant_of-result : goal.invariant_of-result
invariant_of-result c = (sym c.in_ok-buffer.buffer.ok.0 ∙ c.in_ok-buffer.ensures.len, omega arith, between-IsCutting 0 (omega arith))
