use Rattle.std.proofs.Common.{◌≡◌, ◌-◌, ◌++◌, map, drop, length}
use Rattle.wl_expr.specs.Tree.{Tree}
use Rattle.std.specs.Prelude.{List}
use Rattle.wl_match.specs.Means.{tree_among}
use Rattle.wl_match.proofs.cuts.with_others.Given as goal

abbrev pub invariant-loop-at : goal.invariant-loop-at
invariant-loop-at l = (ts : List Tree) → l.count ≡ length ts
    → map (tree_among ts) l.all ++ drop l.at ts ≡ map (tree_among ts) l.places ++ drop l.from ts

abbrev pub decreases-loop-at : goal.decreases-loop-at
decreases-loop-at l = l.count - l.at
