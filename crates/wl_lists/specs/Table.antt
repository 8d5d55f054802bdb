-- The table of built-ins on expressions, lists and strings: which row a name has.
use Rattle.std.specs.Prelude.{List, [], ◌∷◌, Option, Some, None, codes, bytes_eq, if◌then◌else◌}
use Rattle.wl_expr.specs.Applied.{Applied, unchanged}
use Rattle.wl_expr.specs.Tree.{Tree}
use Rattle.wl_expr.specs.Words.{Name}
use Rattle.wl_lists.specs.Arrays.{array_row}
use Rattle.wl_lists.specs.Elements.{head_row, length_row, depth_row, order_row, ordered_row, first_row, last_row, rest_row, most_row, append_row, prepend_row, reverse_row}
use Rattle.wl_lists.specs.Flattening.{flatten_row}
use Rattle.wl_lists.specs.Functions.{total_row, apply_row, map_apply_row, map_row, evaluate_row, release_hold_row, identity_row}
use Rattle.wl_lists.specs.Joining.{join_row, sort_row, union_row, delete_duplicates_row}
use Rattle.wl_lists.specs.Parts.{part_row}
use Rattle.wl_lists.specs.Partitions.{transpose_row, partition_row}
use Rattle.wl_lists.specs.Ranges.{range_row}
use Rattle.wl_lists.specs.Segments.{take_row, drop_row}
use Rattle.wl_lists.specs.Strings.{string_join_row, string_length_row, characters_row, to_string_row, make_boxes_row}

abbrev pub Row : Type 0
Row = List Tree → Applied

abbrev pub rows : List (Name × Row)
rows =
    (codes "Head", head_row) ∷ (codes "Length", length_row) ∷ (codes "Depth", depth_row) ∷ (codes "Order", order_row)
    ∷ (codes "OrderedQ", ordered_row) ∷ (codes "First", first_row) ∷ (codes "Last", last_row) ∷ (codes "Rest", rest_row)
    ∷ (codes "Most", most_row) ∷ (codes "Append", append_row) ∷ (codes "Prepend", prepend_row) ∷ (codes "Join", join_row)
    ∷ (codes "Reverse", reverse_row) ∷ (codes "Sort", sort_row) ∷ (codes "Union", union_row) ∷ (codes "DeleteDuplicates", delete_duplicates_row)
    ∷ (codes "Part", part_row) ∷ (codes "Take", take_row) ∷ (codes "Drop", drop_row) ∷ (codes "Flatten", flatten_row)
    ∷ (codes "Range", range_row) ∷ (codes "Total", total_row) ∷ (codes "Transpose", transpose_row) ∷ (codes "Partition", partition_row)
    ∷ (codes "Apply", apply_row) ∷ (codes "MapApply", map_apply_row) ∷ (codes "Map", map_row) ∷ (codes "Array", array_row)
    ∷ (codes "StringJoin", string_join_row) ∷ (codes "StringLength", string_length_row) ∷ (codes "Characters", characters_row) ∷ (codes "ToString", to_string_row)
    ∷ (codes "MakeBoxes", make_boxes_row) ∷ (codes "Evaluate", evaluate_row) ∷ (codes "ReleaseHold", release_hold_row) ∷ (codes "Identity", identity_row) ∷ []

abbrev pub row_in : Name → List (Name × Row) → Option Row
row_in x [] = None
row_in x (r ∷ rs) = if bytes_eq x r.0 then Some r.1 else row_in x rs

abbrev pub row_of : Name → Option Row
row_of x = row_in x rows

-- for another name the expression stays
abbrev pub by_row : Option Row → List Tree → Applied
by_row None es = unchanged
by_row (Some r) es = r es

abbrev pub apply : Name → List Tree → Applied
apply x es = by_row (row_of x) es
