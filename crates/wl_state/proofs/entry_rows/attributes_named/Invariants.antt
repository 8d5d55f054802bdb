use Rattle.std.proofs.Common.{◌≡◌, drop}
use Rattle.wl_expr.specs.Words.{names_of}
use Rattle.wl_semantics.specs.EntryRows.{attributes_in}
use Rattle.wl_state.specs.Played.{trees}
use Rattle.wl_state.proofs.Symbols.{prefixed}
use Rattle.wl_state.proofs.entry_rows.attributes_named.Given as goal

abbrev pub invariant-loop-e : goal.invariant-loop-e
invariant-loop-e l = attributes_in (names_of (trees l.names)) ≡ prefixed l.attributes.items (attributes_in (names_of (trees (drop l.e-index l.names))))
