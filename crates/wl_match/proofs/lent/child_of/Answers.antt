use Rattle.wl_match.proofs.Subjects.{child_is, child_none}
use Rattle.wl_match.proofs.lent.child_of.Goals as goal

pub returns-in-Some-clause-is : goal.returns-in-Some-clause-is
returns-in-Some-clause-is c = child_is _ _ _ _ _ _ c.in-Node.ensures.plain c.if-step-eq0.false c.in-Some.ensures.lookup.3.0 c.in-Some.ensures.lookup.1

pub returns-in-None-clause-is : goal.returns-in-None-clause-is
returns-in-None-clause-is c = child_none _ _ _ _ c.in-Node.ensures.plain c.if-step-eq0.false c.in-None.ensures.lookup.3
