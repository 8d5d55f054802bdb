use Rattle.std.proofs.Common.{refl}
use Rattle.wl_expr.specs.Stamped.{plain}
use Rattle.wl_match.proofs.Views.{dead_searches}
use Rattle.wl_match.proofs.machine.Machine.next.Goals as goal

pub returns-in-Err-clause-searches : goal.returns-in-Err-clause-searches
returns-in-Err-clause-searches g c h = dead_searches c.args.pattern.now (plain c.args.subject.now) _ refl
