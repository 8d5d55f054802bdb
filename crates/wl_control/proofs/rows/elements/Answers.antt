use Rattle.wl_control.proofs.Elements.{elements_shared}
use Rattle.wl_control.proofs.rows.elements.Goals as goal

pub returns-in_ok-queue-in-Node-clause-elements : goal.returns-in_ok-queue-in-Node-clause-elements
returns-in_ok-queue-in-Node-clause-elements c = elements_shared _ _ _ _ c.in-Node.ensures.plain c.in_ok-queue-in-Node.ensures
