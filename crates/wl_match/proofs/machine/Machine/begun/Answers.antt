use Rattle.std.proofs.Common.{refl}
use Rattle.wl_match.proofs.Views.{begun_searches}
use Rattle.wl_match.proofs.machine.Machine.begun.Goals as goal

pub returns-in_ok-begin-clause-searches : goal.returns-in_ok-begin-clause-searches
returns-in_ok-begin-clause-searches c t h = begun_searches c.args.pattern.now t _ _ refl (c.in_ok-begin.ensures.fits t)
