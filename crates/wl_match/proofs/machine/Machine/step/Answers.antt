use Rattle.std.proofs.Common.{refl}
use Rattle.wl_expr.specs.Stamped.{plain}
use Rattle.wl_match.proofs.Views as views
use Rattle.wl_match.proofs.machine.Machine.step.Goals as goal

pub returns-in_ok-leaf-in-Begun-clause-searches : goal.returns-in_ok-leaf-in-Begun-clause-searches
returns-in_ok-leaf-in-Begun-clause-searches c h =
    views.begun_searches c.args.pattern.now (plain c.args.subject.now) _ _ refl
    (c.in_ok-leaf-in-Begun.ensures.fits (views.searched_walk c.args.pattern.now (plain c.args.subject.now) _ _ c.in-Begun.is (c.in_ok-begun.ensures.searches (plain c.args.subject.now) h)))
