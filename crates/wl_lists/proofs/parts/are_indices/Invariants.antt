use Rattle.std.proofs.Common.{◌≡◌, drop}
use Rattle.std.specs.List.{list_all}
use Rattle.wl_lists.specs.Answers.{trees}
use Rattle.wl_lists.specs.Parts.{is_index}
use Rattle.wl_lists.proofs.parts.are_indices.Given as goal

abbrev pub invariant-loop-arg : goal.invariant-loop-arg
invariant-loop-arg l = list_all is_index (trees l.args) ≡ list_all is_index (trees (drop l.arg-index l.args))
