use Rattle.std.proofs.Common.{ap, ◌∙◌}
use Rattle.wl_expr.specs.Stamped.{plain}
use Rattle.wl_match.specs.Means.{entries}
use Rattle.wl_match.specs.Fits.{all_fit}
use Rattle.wl_match.proofs.Views.{bound_marks, searched_fits}
use Rattle.wl_match.proofs.machine.Machine.view.Goals as goal

pub returns-clause-trail : goal.returns-clause-trail
returns-clause-trail c = ap (entries c.args.pattern.now (plain c.args.subject.now)) c.marks-trail.ensures ∙ bound_marks c.args.pattern.now (plain c.args.subject.now) c.args.self.now.state

pub invariant_of-result : goal.invariant_of-result
invariant_of-result c = record { lendable = ap (all_fit c.args.pattern.now (plain c.args.subject.now)) c.marks-trail.ensures ∙ searched_fits c.args.pattern.now (plain c.args.subject.now) c.args.self.now c.requires }
