-- Texts by their tags.
use Rattle.std.specs.Prelude.{List, map}
use Rattle.std.specs.Cmp.Lexicographic.{slice_cmp}
use Rattle.std.specs.List.Sorted.{IsStrictlySortedBy}
use Rattle.std.specs.Ordering.{nat_cmp}
use Rattle.wl_expr.specs.Words.{Bytes}

-- the tags ascend by their bytes
abbrev pub AreByTag : {X : Type 0} → List (Bytes × X) → Type 0
AreByTag ps = IsStrictlySortedBy (slice_cmp nat_cmp) (map (λ p. p.0) ps)
