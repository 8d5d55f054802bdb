use Rattle.std.proofs.Common.{◌≡◌, drop}
use Rattle.std.specs.List.{list_any}
use Rattle.wl_semantics.specs.Elements.{is_unevaluated}
use Rattle.wl_state.specs.Played.{trees}
use Rattle.wl_state.proofs.shaping.is_bared.Given as goal

abbrev pub invariant-loop-value : goal.invariant-loop-value
invariant-loop-value l = list_any is_unevaluated (trees l.values) ≡ list_any is_unevaluated (trees (drop l.value-index l.values))
