-- An entry that is lent to be changed.
use Rattle.std.specs.Prelude.{ℕ, List}
use Rattle.std.specs.Borrow.{Lends, MutBor, Fml}
use Rattle.wl_expr.specs.Words.{Name}
use Rattle.wl_rules.specs.Stored.{Slot, with_slot}
use Rattle.wl_rules.specs.contracts.entry.Entry.{the_row as entry_row}
use Rattle.wl_rules.specs.contracts.table.Table.{the_row}

-- the table ends with the last entry written in the place of the one at this index
abbrev pub LendsEntry : MutBor (List (Name × Slot)) → ℕ → MutBor Slot → Fml
LendsEntry t i r = Lends the_row entry_row t r (λ w. with_slot i w t.now)
