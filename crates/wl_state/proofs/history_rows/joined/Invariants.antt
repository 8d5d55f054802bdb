use Rattle.std.proofs.Common.{◌≡◌, ◌++◌, drop, string_bytes}
use Rattle.wl_semantics.specs.MessageRows as rows
use Rattle.wl_state.specs.Played.{trees}
use Rattle.wl_state.proofs.history_rows.joined.Given as goal

abbrev pub invariant-loop-arg : goal.invariant-loop-arg
invariant-loop-arg l = string_bytes l.text ++ rows.joined (trees (drop l.arg-index l.args)) ≡ rows.joined (trees l.args)
