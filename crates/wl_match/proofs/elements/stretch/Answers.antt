use Rattle.wl_expr.specs.Stamped.{plain}
use Rattle.wl_match.proofs.Fitting as fitting
use Rattle.wl_match.proofs.elements.stretch.Goals as goal

pub returns-else-stretches-clause-serves : goal.returns-else-stretches-clause-serves
returns-else-stretches-clause-serves c h = fitting.element_serves c.args.pattern.now (plain c.args.subject.now) c.args.i c.args.q c.args.run h
