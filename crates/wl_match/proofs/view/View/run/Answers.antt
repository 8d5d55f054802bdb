use Rattle.wl_expr.specs.Stamped.{plain}
use Rattle.wl_match.proofs.view.View.run.Goals as goal

pub returns-in-None-clause-trees : goal.returns-in-None-clause-trees
returns-in-None-clause-trees c = c.in-None.ensures.run (plain c.args.self.now.subject.now)
