use Rattle.std.proofs.Common.{subst}
use Rattle.wl_stamps.specs.Reads.{AreDistinct}
use Rattle.wl_stamps.proofs.Versions.{once_each}
use Rattle.wl_stamps.proofs.reads.Reads.len.Goals as goal

pub returns-clause-once : goal.returns-clause-once
returns-clause-once c = once_each c.args.self.now (subst AreDistinct c.self.view_is c.len.ensures.unique)
