use Rattle.std.proofs.Common.{◌≡◌, drop}
use Rattle.std.specs.List.{All}
use Rattle.wl_rules.specs.Stored.{Stored}
use Rattle.wl_shape.specs.Scopes.{locals_of}
use Rattle.wl_state.specs.Honest.{HonestIn}
use Rattle.wl_state.specs.LocalNames.{AreLocals, locals_in}
use Rattle.wl_state.specs.Played.{trees}
use Rattle.wl_state.specs.Searching.{needs_values}
use Rattle.wl_state.proofs.LocalParts.{behind}
use Rattle.wl_state.proofs.locals.locals.Given as goal

abbrev pub invariant-loop-i : goal.invariant-loop-i
invariant-loop-i l = record {
  read : locals_of (needs_values l.need_values) (trees l.args) ≡ behind (locals_in l.all.items) (locals_of (needs_values l.need_values) (trees (drop l.i l.args)));
  honest : (a : Stored) → All (HonestIn a) l.args → AreLocals a l.all.items;
}
