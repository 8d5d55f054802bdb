use Rattle.std.proofs.Common.{◌≡◌, ◌+◌, ◌*◌, drop}
use Rattle.wl_expr.specs.Stamped.{plain, plains, from_list}
use Rattle.wl_expr.specs.Tree.{depth, depths}
use Rattle.wl_shape.specs.Walks.{have_scopes}
use Rattle.wl_shape.proofs.scopes.+scopes.Given as goal

abbrev pub decreases-has_scope : goal.decreases-has_scope
decreases-has_scope l = 2 * depth (plain l.e.now)

abbrev pub decreases-have_scopes : goal.decreases-have_scopes
decreases-have_scopes l = 2 * depths (plains (from_list l.args.now)) + 1

abbrev pub invariant-have_scopes-loop-arg : goal.invariant-have_scopes-loop-arg
invariant-have_scopes-loop-arg l = have_scopes (plains (from_list l.args)) ≡ have_scopes (plains (from_list (drop l.arg-index l.args)))
