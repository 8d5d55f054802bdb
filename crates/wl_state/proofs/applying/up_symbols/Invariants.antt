use Rattle.std.proofs.Common.{◌≡◌, drop, filter_map}
use Rattle.wl_expr.specs.Same.{first_names}
use Rattle.wl_expr.specs.Words.{name_of}
use Rattle.wl_state.specs.Played.{trees}
use Rattle.wl_semantics.specs.Turn.{up_name, up_names}
use Rattle.wl_state.proofs.applying.up_symbols.Given as goal

abbrev pub invariant-loop-arg : goal.invariant-loop-arg
invariant-loop-arg l = record {
  met : l.met.keys ≡ l.symbols.items;
  left : first_names (filter_map name_of (trees l.symbols.items)) (filter_map up_name (trees (drop l.arg-index l.args))) ≡ up_names (trees l.args);
}
