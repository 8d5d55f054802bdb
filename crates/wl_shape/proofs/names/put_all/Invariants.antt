use Rattle.std.proofs.Common.{◌≡◌, ◌||◌, drop}
use Rattle.wl_expr.specs.Words.{Name}
use Rattle.wl_shape.specs.Names.{has_name}
use Rattle.wl_shape.proofs.names.put_all.Given as goal

abbrev pub invariant-loop-symbol : goal.invariant-loop-symbol
invariant-loop-symbol l = (x : Name) → (has_name l.fn.names.keys x || has_name l.symbols x) ≡ (has_name l.names.keys x || has_name (drop l.symbol-index l.symbols) x)
