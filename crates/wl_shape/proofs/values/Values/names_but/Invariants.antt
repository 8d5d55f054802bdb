use Rattle.std.proofs.Common.{◌≡◌, ◌||◌, ◌&&◌, not, drop}
use Rattle.std.specs.Prelude.{is_some}
use Rattle.wl_expr.specs.Tree.{symbol}
use Rattle.wl_expr.specs.Words.{Name}
use Rattle.wl_shape.specs.Held.{found}
use Rattle.wl_shape.specs.Names.{has_name}
use Rattle.wl_shape.proofs.values.Values.names_but.Given as goal

abbrev pub invariant-loop-at : goal.invariant-loop-at
invariant-loop-at l = (x : Name) → (is_some (found l.self.map.entries (symbol x)) && not (has_name l.shadowed.keys x)) ≡ (has_name l.names.keys x || (is_some (found (drop l.at l.self.map.entries) (symbol x)) && not (has_name l.shadowed.keys x)))
