-- How the start comes about: one symbol after the other gets its entry.
use Rattle.std.specs.Prelude.{if◌then◌else◌, List, [], ◌∷◌, bytes_eq}
use Rattle.wl_expr.specs.Words.{Name}
use Rattle.wl_rules.specs.Attributes.{AttributeSet}
use Rattle.wl_rules.specs.Start.{SymbolRow, slot_of_symbol, protected_with}
use Rattle.wl_rules.specs.Stored.{Slot}

-- the rows with this slot for a name, behind the others where the name is new
abbrev pub with_row : Name → Slot → List (Name × Slot) → List (Name × Slot)
with_row x w [] = (x, w) ∷ []
with_row x w (r ∷ rs) = if bytes_eq x r.0 then (r.0, w) ∷ rs else r ∷ with_row x w rs

abbrev pub with_symbols : AttributeSet → List Name → List (Name × Slot) → List (Name × Slot)
with_symbols s [] rows = rows
with_symbols s (x ∷ xs) rows = with_symbols s xs (with_row x (slot_of_symbol s x) rows)

abbrev pub with_symbol_rows : List SymbolRow → List (Name × Slot) → List (Name × Slot)
with_symbol_rows [] rows = rows
with_symbol_rows (r ∷ rs) rows = with_symbol_rows rs (with_symbols (protected_with r.0) r.1 rows)
