use Rattle.std.proofs.Common.{◌≡◌, drop}
use Rattle.wl_expr.specs.Same.{same_lists}
use Rattle.wl_match.specs.Runs.{trees_in}
use Rattle.wl_match.proofs.lent.Items.same.Given as goal

abbrev pub invariant-loop-k : goal.invariant-loop-k
invariant-loop-k l = same_lists (drop l.k (trees_in l.self)) (drop l.k (trees_in l.other)) ≡ same_lists (trees_in l.self) (trees_in l.other)
