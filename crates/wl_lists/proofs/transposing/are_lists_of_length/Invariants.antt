use Rattle.std.proofs.Common.{◌≡◌, drop}
use Rattle.std.specs.List.{list_all}
use Rattle.wl_lists.specs.Answers.{trees}
use Rattle.wl_lists.specs.Partitions.{is_list_of_length}
use Rattle.wl_lists.proofs.transposing.are_lists_of_length.Given as goal

abbrev pub invariant-loop-row : goal.invariant-loop-row
invariant-loop-row l = list_all (is_list_of_length l.n) (trees l.rows) ≡ list_all (is_list_of_length l.n) (trees (drop l.row-index l.rows))
