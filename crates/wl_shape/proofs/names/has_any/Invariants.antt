use Rattle.std.proofs.Common.{◌≡◌, drop}
use Rattle.std.specs.List.{list_any}
use Rattle.wl_expr.specs.Stamped.{plain}
use Rattle.wl_shape.specs.Names.{has_tree}
use Rattle.wl_shape.proofs.names.has_any.Given as goal

abbrev pub invariant-loop-symbol : goal.invariant-loop-symbol
invariant-loop-symbol l = list_any (λ e. has_tree l.names.keys (plain e)) l.symbols ≡ list_any (λ e. has_tree l.names.keys (plain e)) (drop l.symbol-index l.symbols)
