use Rattle.std.proofs.Common.{◌≡◌, drop}
use Rattle.std.specs.List.{list_any}
use Rattle.wl_expr.specs.Stamped.{plain}
use Rattle.wl_shape.specs.Names.{has_tree}
use Rattle.wl_shape.proofs.walk.any_near.Given as goal

abbrev pub invariant-loop-name : goal.invariant-loop-name
invariant-loop-name l = list_any (λ e. has_tree l.values.near.keys (plain e)) l.names ≡ list_any (λ e. has_tree l.values.near.keys (plain e)) (drop l.name-index l.names)
