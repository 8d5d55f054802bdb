use Rattle.wl_expr.specs.Stamped.{plain}
use Rattle.wl_lists.proofs.Faults.{boxes_made}
use Rattle.wl_lists.proofs.strings.boxed.Goals as goal

pub returns-clause-made : goal.returns-clause-made
returns-clause-made c = boxes_made (plain c.args.e.now) _ c.boxes.ensures.ok c.boxes.ensures.large
