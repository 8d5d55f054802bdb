-- The rows of the table, by their kinds.
use Rattle.wl_lists.specs.Arrays.{array_row}
use Rattle.wl_lists.specs.Elements.{head_row, length_row, depth_row, order_row, ordered_row, first_row, last_row, rest_row, most_row, append_row, prepend_row, reverse_row}
use Rattle.wl_lists.specs.Flattening.{flatten_row}
use Rattle.wl_lists.specs.Functions.{total_row, apply_row, map_apply_row, map_row, evaluate_row, release_hold_row, identity_row}
use Rattle.wl_lists.specs.Joining.{join_row, sort_row, union_row, delete_duplicates_row}
use Rattle.wl_lists.specs.Parts.{part_row}
use Rattle.wl_lists.specs.Partitions.{transpose_row, partition_row}
use Rattle.wl_lists.specs.Ranges.{range_row}
use Rattle.wl_lists.specs.Segments.{take_row, drop_row}
use Rattle.wl_lists.specs.Strings.{string_join_row, string_length_row, characters_row, to_string_row, make_boxes_row}
use Rattle.wl_lists.specs.Table.{Row}
use Rattle.wl_lists.specs.declared.kind.Kind as kind
use Rattle.wl_lists.specs.declared.kind.Kind.TheVariants.{Head, Length, Depth, Order, OrderedQ, First, Last, Rest, Most, Append, Prepend, Join, Reverse, Sort, Union, DeleteDuplicates, Part, Take, Drop, Flatten, Range, Total, Transpose, Partition, Apply, MapApply, Map, Array, StringJoin, StringLength, Characters, ToString, MakeBoxes, Evaluate, ReleaseHold, Identity}

abbrev pub row_by : kind.Kind → Row
row_by Head = head_row
row_by Length = length_row
row_by Depth = depth_row
row_by Order = order_row
row_by OrderedQ = ordered_row
row_by First = first_row
row_by Last = last_row
row_by Rest = rest_row
row_by Most = most_row
row_by Append = append_row
row_by Prepend = prepend_row
row_by Join = join_row
row_by Reverse = reverse_row
row_by Sort = sort_row
row_by Union = union_row
row_by DeleteDuplicates = delete_duplicates_row
row_by Part = part_row
row_by Take = take_row
row_by Drop = drop_row
row_by Flatten = flatten_row
row_by Range = range_row
row_by Total = total_row
row_by Transpose = transpose_row
row_by Partition = partition_row
row_by Apply = apply_row
row_by MapApply = map_apply_row
row_by Map = map_row
row_by Array = array_row
row_by StringJoin = string_join_row
row_by StringLength = string_length_row
row_by Characters = characters_row
row_by ToString = to_string_row
row_by MakeBoxes = make_boxes_row
row_by Evaluate = evaluate_row
row_by ReleaseHold = release_hold_row
row_by Identity = identity_row
