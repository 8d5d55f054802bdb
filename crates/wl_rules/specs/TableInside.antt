-- The entries of a table by their names.
use Rattle.std.specs.Prelude.{List, map}
use Rattle.std.specs.String.{string_bytes}
use Rattle.wl_expr.specs.Words.{Name}
use Rattle.wl_rules.specs.Stored.{Slot}
use Rattle.wl_rules.specs.declared.table.Table.TheInside.{Inside}

abbrev pub rows_of : Inside → List (Name × Slot)
rows_of a = map (λ p. (string_bytes p.0, p.1)) a.entries.entries
