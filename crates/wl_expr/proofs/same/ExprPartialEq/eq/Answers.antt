use Rattle.wl_expr.specs.Stamped.{plain}
use Rattle.wl_expr.proofs.SameNodes.{same_answer}
use Rattle.wl_expr.proofs.same.ExprPartialEq.eq.Goals as goal

pub returns : goal.returns
returns c = same_answer c.same_tree.result (plain c.args.self.now) (plain c.args.other.now) c.same_tree.ensures
