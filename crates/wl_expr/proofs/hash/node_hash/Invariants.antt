use Rattle.std.proofs.Common.{◌≡◌, drop}
use Rattle.wl_expr.specs.Hash.{mixed, mixed_trees, tree_hash}
use Rattle.wl_expr.specs.Stamped.{plain, plains, from_list}
use Rattle.wl_expr.proofs.hash.node_hash.Given as goal

abbrev pub invariant-loop-arg : goal.invariant-loop-arg
invariant-loop-arg l = mixed_trees l.hash (plains (from_list (drop l.arg-index l.args))) ≡ mixed_trees (mixed 0xA4093822299F31D0 (tree_hash (plain l.head))) (plains (from_list l.args))
