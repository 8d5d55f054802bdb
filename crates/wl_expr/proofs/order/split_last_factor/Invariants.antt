use Rattle.std.proofs.Common.{◌≡◌, map, take}
use Rattle.wl_expr.specs.Order.{without_numbers, last_first}
use Rattle.wl_expr.specs.Stamped.{plain}
use Rattle.wl_expr.proofs.order.split_last_factor.Given as goal

abbrev pub invariant-loop-at : goal.invariant-loop-at
invariant-loop-at l = last_first (without_numbers (map plain (take l.at l.args))) ≡ last_first (without_numbers (map plain l.args))
