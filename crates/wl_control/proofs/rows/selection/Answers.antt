use Rattle.wl_control.proofs.Elements.{elements_selected}
use Rattle.wl_control.proofs.rows.selection.Goals as goal

pub returns-in_ok-queue-in-Node-clause-row : goal.returns-in_ok-queue-in-Node-clause-row
returns-in_ok-queue-in-Node-clause-row c =
    elements_selected _ _ _ _ _ _ _ c.in-Node.ensures.plain c.in_ok-copy-in-Node.ensures c.new.ensures.items c.in_ok-queue-in-Node.ensures
