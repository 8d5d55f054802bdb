-- The core of a left side: what is defined, without the conditions and the `HoldPattern` around it (the manual's tutorials on
-- patterns and on evaluation).
use Rattle.std.specs.Prelude.{Bool, true, false, if◌then◌else◌}
use Rattle.wl_expr.specs.Special.{Special, condition, hold_pattern, special_node}
use Rattle.wl_expr.specs.Tree.{Tree, node, more, to_list}

abbrev pub is_around : Special → Bool
is_around condition = true
is_around hold_pattern = true
is_around _ = false

-- the first element of `Condition[l, c]` and of `HoldPattern[l]` is taken while there is one
abbrev pub core : Tree → Tree
core (node h (more l ts)) = if is_around (special_node h (to_list (more l ts))) then core l else node h (more l ts)
core t = t

abbrev pub holds : Special → Bool → Bool
holds condition inside = inside
holds hold_pattern inside = true
holds _ inside = false

-- whether `HoldPattern` was met on the way
abbrev pub is_held : Tree → Bool
is_held (node h (more l ts)) = holds (special_node h (to_list (more l ts))) (is_held l)
is_held t = false
