-- `Partition[e, n]`, n from 1 up: whole parts alone, e's head at both levels; and `Transpose` of a list of lists of one length from 1 up. Reference pages of these.
use Rattle.std.specs.Prelude.{ℕ, suc, ◌*◌, ◌/◌, ◌&&◌, Bool, true, false, nat_eq, nat_lt, List, [], ◌∷◌, length, take, drop, map, get_or, Option, Some, None}
use Rattle.std.specs.List.{list_all}
use Rattle.wl_expr.specs.Applied.{Applied, unchanged, gives}
use Rattle.wl_expr.specs.Tree.{Tree}
use Rattle.wl_expr.specs.Words.{applied, count_of, elements, is_list, list_of}
use Rattle.wl_lists.specs.Nodes.{of_node_and, list_elements}
use Rattle.wl_lists.specs.Tabulated.{tabulated}

-- the part of place k from 0
abbrev pub chunk : Tree → ℕ → List Tree → ℕ → Tree
chunk h n ts k = applied h (take n (drop (k * n) ts))

abbrev pub chunks : Tree → ℕ → List Tree → List Tree
chunks h n ts = tabulated (chunk h n ts) 0 (length ts / n)

abbrev pub partition_by : Tree → List Tree → Option ℕ → Applied
partition_by h ts (Some (suc n)) = gives (applied h (chunks h (suc n) ts))
partition_by h ts n = unchanged

abbrev pub partition_row : List Tree → Applied
partition_row es = of_node_and (λ h ts n. partition_by h ts (count_of n)) es

-- the column of place k from 0
abbrev pub column : List Tree → ℕ → Tree
column rows k = list_of (map (λ r. get_or (elements r) k r) rows)

abbrev pub is_list_of_length : ℕ → Tree → Bool
is_list_of_length n t = is_list t && nat_eq (length (elements t)) n

abbrev pub transposed : List Tree → Applied
transposed [] = unchanged
transposed (r ∷ rs) =
    let n = length (elements r) in
    elim (nat_lt 0 n && list_all (is_list_of_length n) (r ∷ rs)) [ true ↦ gives (list_of (tabulated (column (r ∷ rs)) 0 n)) | false ↦ unchanged ]

abbrev pub transposed_of : Option (List Tree) → Applied
transposed_of None = unchanged
transposed_of (Some rows) = transposed rows

abbrev pub transpose_row : List Tree → Applied
transpose_row (t ∷ []) = transposed_of (list_elements t)
transpose_row es = unchanged
