use Rattle.wl_match.proofs.Subjects.{parts_are}
use Rattle.wl_match.proofs.lent.args_of.Goals as goal

pub returns-in-Node-clause-is : goal.returns-in-Node-clause-is
returns-in-Node-clause-is c = parts_are _ _ _ c.in-Node.ensures.plain
