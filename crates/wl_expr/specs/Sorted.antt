-- Trees in the canonical order. Of two proper trees neither of which comes first, both are one tree, so there is one such list.
use Rattle.std.specs.Prelude.{Bool, true, false, List, [], ◌∷◌}
use Rattle.std.specs.Ordering.{is_lt}
use Rattle.wl_expr.specs.Tree.{Tree}
use Rattle.wl_expr.specs.Order.{canonical_order}

-- a tree in its place among sorted ones
abbrev pub placed : Tree → List Tree → List Tree
placed t [] = t ∷ []
placed t (u ∷ us) = elim (is_lt (canonical_order t u)) [ true ↦ t ∷ u ∷ us | false ↦ u ∷ placed t us ]

abbrev pub sorted_on : List Tree → List Tree → List Tree
sorted_on done [] = done
sorted_on done (t ∷ ts) = sorted_on (placed t done) ts

abbrev pub sorted : List Tree → List Tree
sorted ts = sorted_on [] ts

-- whether each comes no later than the next
abbrev pub is_sorted : List Tree → Bool
is_sorted [] = true
is_sorted (t ∷ []) = true
is_sorted (t ∷ u ∷ us) = elim (is_lt (canonical_order u t)) [ true ↦ false | false ↦ is_sorted (u ∷ us) ]
