use Rattle.std.proofs.Common.{ap}
use Rattle.wl_match.proofs.Arms as arms
use Rattle.wl_match.proofs.Keeping as keeping
use Rattle.wl_match.specs.declared.taken.Taken.TheVariants as taken
use Rattle.wl_match.proofs.machine.begin.Goals as goal

pub returns-clause-leaves : goal.returns-clause-leaves
returns-clause-leaves c t = arms.begins c.args.pattern.now t _ _ _ _ c.new-walk.ensures c.in_ok-keep.ensures c.top.ensures (ap taken.Tree c.top-place.ensures)

pub returns-clause-fits : goal.returns-clause-fits
returns-clause-fits c t = keeping.begins_fit c.args.pattern.now t _ _ _ _ c.new-walk.ensures c.in_ok-keep.ensures c.top.ensures (ap taken.Tree c.top-place.ensures)
