use Rattle.std.proofs.Common.{◌≡◌, drop}
use Rattle.std.specs.List.{list_any}
use Rattle.std.specs.Prelude.{codes}
use Rattle.wl_expr.specs.Words.{is_form}
use Rattle.wl_state.specs.Played.{trees}
use Rattle.wl_state.proofs.shaping.stays.Given as goal

abbrev pub invariant-loop-value : goal.invariant-loop-value
invariant-loop-value l = list_any (is_form (codes "Sequence")) (trees l.values) ≡ list_any (is_form (codes "Sequence")) (trees (drop l.value-index l.values))
