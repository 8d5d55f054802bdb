use Rattle.std.proofs.Common.{◌≡◌, drop}
use Rattle.std.specs.Prelude.{Some}
use Rattle.wl_expr.specs.Stamped.{plain}
use Rattle.wl_match.specs.Trials.{all_have}
use Rattle.wl_match.specs.Runs.{trees_in}
use Rattle.wl_match.proofs.sorts.items_have.Given as goal

abbrev pub invariant-loop-k : goal.invariant-loop-k
invariant-loop-k l = all_have (Some (plain l.head)) (drop l.k (trees_in l.items)) ≡ all_have (Some (plain l.head)) (trees_in l.items)
