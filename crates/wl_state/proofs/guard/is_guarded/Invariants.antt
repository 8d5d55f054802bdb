use Rattle.std.proofs.Common.{◌≡◌}
use Rattle.wl_expr.specs.Stamped.{plain}
use Rattle.wl_expr.specs.Tree.{depth}
use Rattle.wl_semantics.specs.Match.{is_guarded}
use Rattle.wl_state.proofs.guard.is_guarded.Given as goal

abbrev pub invariant-scopes : goal.invariant-scopes
invariant-scopes l = is_guarded (plain l.e) ≡ is_guarded (plain l.part)

abbrev pub decreases-scopes : goal.decreases-scopes
decreases-scopes l = depth (plain l.part)
