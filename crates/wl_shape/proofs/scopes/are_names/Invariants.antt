use Rattle.std.proofs.Common.{◌≡◌, drop}
use Rattle.std.specs.List.{list_all}
use Rattle.wl_shape.specs.Answers.{trees}
use Rattle.wl_shape.specs.Elements.{is_name}
use Rattle.wl_shape.proofs.scopes.are_names.Given as goal

abbrev pub invariant-loop-e : goal.invariant-loop-e
invariant-loop-e l = list_all is_name (trees l.elements) ≡ list_all is_name (trees (drop l.e-index l.elements))
