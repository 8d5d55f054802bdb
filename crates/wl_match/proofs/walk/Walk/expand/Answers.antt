use Rattle.wl_match.proofs.walk.Walk.expand.Goals as goal

pub returns-in-Members-clause-plays : goal.returns-in-Members-clause-plays
returns-in-Members-clause-plays c = rw c.in-Members.is c.try_members.ensures.plays
