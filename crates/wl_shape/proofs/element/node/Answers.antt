use Rattle.wl_shape.proofs.Faults.{node_makes}
use Rattle.wl_shape.proofs.element.node.Goals as goal

pub returns-clause-made : goal.returns-clause-made
returns-clause-made c = node_makes _ _ _ c.node.ensures.ok c.node.ensures.large.0
