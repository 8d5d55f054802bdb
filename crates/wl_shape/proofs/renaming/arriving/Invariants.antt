use Rattle.std.proofs.Common.{◌≡◌, ◌||◌, drop}
use Rattle.wl_expr.specs.Same.{is_name_among}
use Rattle.wl_expr.specs.Words.{Name}
use Rattle.wl_shape.specs.Answers.{trees}
use Rattle.wl_shape.specs.Fill.{arriving}
use Rattle.wl_shape.specs.Held.{values_in}
use Rattle.wl_shape.specs.Names.{has_name, names_in}
use Rattle.wl_shape.proofs.renaming.arriving.Given as goal

abbrev pub invariant-loop-name : goal.invariant-loop-name
invariant-loop-name l = (x : Name) → is_name_among x (arriving (names_in (trees l.names.keys)) (values_in l.values)) ≡ (has_name l.arrived.keys x || is_name_among x (arriving (names_in (trees (drop l.name-index l.names.keys))) (values_in l.values)))
