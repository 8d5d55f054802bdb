-- `Take[e, n]`, `Take[e, -n]`, `Take[e, {m, n}]`, and Drop likewise, where the elements exist. Reference pages of these.
use Rattle.std.specs.Prelude.{ℕ, ℤ, ◌+◌, ◌-◌, nat_le, List, [], ◌∷◌, ◌++◌, length, take, drop, Option, Some, None, if◌then◌else◌, unsigned_abs}
use Rattle.std.specs.Int.{is_negative}
use Rattle.wl_expr.specs.Applied.{Applied, unchanged, gives}
use Rattle.wl_expr.specs.Tree.{Tree}
use Rattle.wl_expr.specs.Words.{applied, int_of}
use Rattle.wl_lists.specs.Nodes.{of_node_and, list_elements}
use Rattle.wl_lists.specs.Places.{place_of}
use Rattle.wl_lists.specs.declared.segments.Segment.{Segment}

-- the first n elements, or the last for negative n
abbrev pub segment_to : ℕ → ℤ → Option Segment
segment_to size n =
    if nat_le (unsigned_abs n) size
    then Some (record { from = if is_negative n then size - unsigned_abs n else 0; count = unsigned_abs n })
    else None

abbrev pub segment_by : ℕ → Option ℤ → Option Segment
segment_by size None = None
segment_by size (Some n) = segment_to size n

-- from one place to another, which isn't before it
abbrev pub segment_between : Option ℕ → Option ℕ → Option Segment
segment_between (Some m) (Some n) = if nat_le m n then Some (record { from = m; count = n + 1 - m }) else None
segment_between _ _ = None

abbrev pub place_in : ℕ → Option ℤ → Option ℕ
place_in size None = None
place_in size (Some n) = place_of size n

abbrev pub segment_in : ℕ → List Tree → Option Segment
segment_in size (m ∷ n ∷ []) = segment_between (place_in size (int_of m)) (place_in size (int_of n))
segment_in size ts = None

abbrev pub segment_of : ℕ → Tree → Option Segment
segment_of size s = elim (list_elements s) [ None ↦ segment_by size (int_of s) | Some ts ↦ segment_in size ts ]

abbrev pub taken : Tree → List Tree → Option Segment → Applied
taken h ts None = unchanged
taken h ts (Some s) = gives (applied h (take s.count (drop s.from ts)))

abbrev pub take_row : List Tree → Applied
take_row es = of_node_and (λ h ts s. taken h ts (segment_of (length ts) s)) es

abbrev pub dropped : Tree → List Tree → Option Segment → Applied
dropped h ts None = unchanged
dropped h ts (Some s) = gives (applied h (take s.from ts ++ drop (s.from + s.count) ts))

abbrev pub drop_row : List Tree → Applied
drop_row es = of_node_and (λ h ts s. dropped h ts (segment_of (length ts) s)) es
