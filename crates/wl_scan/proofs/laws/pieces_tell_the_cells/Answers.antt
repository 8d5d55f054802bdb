use Rattle.wl_scan.specs.Cells.{start}
use Rattle.wl_scan.proofs.Pieces.{told_by_is}
use Rattle.wl_scan.proofs.laws.pieces_tell_the_cells.Goals as goal

pub returns : goal.returns
returns c = told_by_is start
