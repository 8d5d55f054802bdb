-- The two limits, and the values that they may have (the manual's pages on `$RecursionLimit` and `$IterationLimit`; the greatest
-- values are this project's own).
use Rattle.std.specs.Prelude.{ℕ, Bool, false, ◌&&◌, nat_le, Option, Some, None, codes, bytes_eq, if◌then◌else◌}
use Rattle.wl_expr.specs.Tree.{Tree}
use Rattle.wl_expr.specs.Words.{Name, count_of}

-- an integer from 20 to the greatest value
abbrev pub is_within : ℕ → Option ℕ → Bool
is_within greatest None = false
is_within greatest (Some n) = nat_le 20 n && nat_le n greatest

-- whether a value is allowed for the limit of a name; none for another name
abbrev pub limit_allows : Name → Tree → Option Bool
limit_allows x v =
    if bytes_eq x (codes "$RecursionLimit") then Some (is_within 512 (count_of v))
    else (if bytes_eq x (codes "$IterationLimit") then Some (is_within 1000000 (count_of v)) else None)
