use Rattle.wl_laws.proofs.Computed as computed
use Rattle.wl_laws.proofs.worked_cells.Goals as goal

pub returns : goal.returns
returns c = computed.worked_cells
