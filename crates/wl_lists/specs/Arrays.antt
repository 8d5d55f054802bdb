-- `Array[f, n]`: `{f[1], f[2]}` to n, from 0 up. Reference page of it.
use Rattle.std.specs.Prelude.{ℕ, List, [], ◌∷◌, Option, Some, None}
use Rattle.wl_expr.specs.Applied.{Applied, unchanged, gives}
use Rattle.wl_expr.specs.Tree.{Tree}
use Rattle.wl_expr.specs.Words.{applied, count_of, list_of, natural}
use Rattle.wl_lists.specs.Tabulated.{tabulated}

abbrev pub image_at : Tree → ℕ → Tree
image_at f k = applied f (natural k ∷ [])

abbrev pub array_of : Tree → Option ℕ → Applied
array_of f None = unchanged
array_of f (Some n) = gives (list_of (tabulated (image_at f) 1 n))

abbrev pub array_row : List Tree → Applied
array_row (f ∷ n ∷ []) = array_of f (count_of n)
array_row es = unchanged
