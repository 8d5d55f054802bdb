-- What the rows give on a few expressions.
use Rattle.std.specs.Prelude.{◌≡◌, negsuc, [], ◌∷◌, codes}
use Rattle.wl_expr.specs.Applied.{no_part, unchanged, gives, told}
use Rattle.wl_expr.specs.Tree.{Tree, symbol, text}
use Rattle.wl_expr.specs.Words.{form, list_of, natural, whole}
use Rattle.wl_lists.specs.Elements.{most_row}
use Rattle.wl_lists.specs.Flattening.{flatten_row}
use Rattle.wl_lists.specs.Functions.{apply_row, release_hold_row}
use Rattle.wl_lists.specs.Joining.{join_row, union_row, delete_duplicates_row}
use Rattle.wl_lists.specs.Parts.{part_row}
use Rattle.wl_lists.specs.Partitions.{partition_row}
use Rattle.wl_lists.specs.Segments.{take_row, drop_row}
use Rattle.wl_lists.specs.Strings.{string_join_row}

abbrev pub a : Tree
a = symbol (codes "a")

abbrev pub b : Tree
b = symbol (codes "b")

abbrev pub c : Tree
c = symbol (codes "c")

abbrev pub all : Tree
all = list_of (a ∷ b ∷ c ∷ [])

-- `Take` and `Drop` by one index and by two, 0 among them; `Union`; `DeleteDuplicates`; `Join` and `StringJoin` of nothing; `Flatten` of another head; `Partition` with a rest; `Most`; `ReleaseHold` of two; `Apply` on an atom; `Part` by a list of indices, by indices without a part, the first of which is told, and on an atom
abbrev pub WorkedRows : Type 0
WorkedRows =
    (take_row (all ∷ natural 2 ∷ []) ≡ gives (list_of (a ∷ b ∷ [])))
    × (take_row (all ∷ list_of (natural 2 ∷ whole (negsuc 0) ∷ []) ∷ []) ≡ gives (list_of (b ∷ c ∷ [])))
    × (take_row (all ∷ list_of (natural 0 ∷ natural 2 ∷ []) ∷ []) ≡ unchanged)
    × (drop_row (all ∷ whole (negsuc 0) ∷ []) ≡ gives (list_of (a ∷ b ∷ [])))
    × (union_row (list_of (b ∷ a ∷ []) ∷ list_of (a ∷ []) ∷ []) ≡ gives (list_of (a ∷ b ∷ [])))
    × (delete_duplicates_row (list_of (b ∷ a ∷ b ∷ []) ∷ []) ≡ gives (list_of (b ∷ a ∷ [])))
    × (join_row [] ≡ unchanged)
    × (string_join_row [] ≡ gives (text []))
    × (flatten_row (list_of (list_of (a ∷ []) ∷ form (codes "f") (list_of (b ∷ []) ∷ []) ∷ []) ∷ []) ≡ gives (list_of (a ∷ form (codes "f") (list_of (b ∷ []) ∷ []) ∷ [])))
    × (partition_row (all ∷ natural 2 ∷ []) ≡ gives (list_of (list_of (a ∷ b ∷ []) ∷ [])))
    × (most_row (all ∷ []) ≡ gives (list_of (a ∷ b ∷ [])))
    × (release_hold_row (form (codes "Hold") (a ∷ b ∷ []) ∷ []) ≡ gives (form (codes "Hold") (a ∷ b ∷ [])))
    × (apply_row (a ∷ natural 5 ∷ []) ≡ unchanged)
    × (part_row (list_of (list_of (a ∷ b ∷ []) ∷ list_of (b ∷ c ∷ []) ∷ []) ∷ list_of (natural 1 ∷ natural 2 ∷ []) ∷ natural 2 ∷ []) ≡ gives (list_of (b ∷ c ∷ [])))
    × (part_row (all ∷ list_of (natural 7 ∷ natural 9 ∷ []) ∷ []) ≡ told (no_part (natural 7) all))
    × (part_row (list_of (list_of (a ∷ []) ∷ []) ∷ list_of (natural 1 ∷ natural 9 ∷ []) ∷ natural 5 ∷ []) ≡ told (no_part (natural 5) (list_of (a ∷ []))))
    × (part_row (list_of (natural 5 ∷ []) ∷ natural 1 ∷ natural 0 ∷ []) ≡ told (no_part (natural 0) (natural 5)))
    × (part_row (list_of (natural 5 ∷ []) ∷ natural 1 ∷ list_of [] ∷ []) ≡ unchanged)
