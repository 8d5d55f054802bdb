use Rattle.std.proofs.Common.{◌≡◌, drop}
use Rattle.std.specs.List.{list_all}
use Rattle.wl_expr.specs.Words.{is_int}
use Rattle.wl_lists.specs.Answers.{trees}
use Rattle.wl_lists.proofs.parts.are_integers.Given as goal

abbrev pub invariant-loop-element : goal.invariant-loop-element
invariant-loop-element l = list_all is_int (trees l.elements) ≡ list_all is_int (trees (drop l.element-index l.elements))
