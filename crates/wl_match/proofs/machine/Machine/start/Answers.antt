use Rattle.std.proofs.Common.{refl}
use Rattle.wl_match.proofs.Views.{fresh_searches}
use Rattle.wl_match.proofs.machine.Machine.start.Goals as goal

pub returns-clause-searches : goal.returns-clause-searches
returns-clause-searches c ss t = fresh_searches ss t _ c.args.alloc refl
