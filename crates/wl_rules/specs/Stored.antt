-- What contracts see of a store: the entries of its names in the order of their indexes, each with its version, and the number that was drawn last.
use Rattle.std.specs.Prelude.{◌<◌, ℕ, ◌+◌, ◌-◌, ◌^◌, min, List, [], Option, Some, None, map, length, slice_index_or, slice_set}
use Rattle.wl_expr.specs.Words.{Name}
use Rattle.wl_rules.specs.Entries.{Entry, Definitions, PlainRule, empty_entry, map_entry, value_at}
use Rattle.wl_rules.specs.StampedRules.{plain_rule}
use Rattle.wl_rules.specs.declared.rule.Rule.{Rule}

-- an entry, and the version that was drawn for its last change
pub record Slot : Type 0 where
  pub version : ℕ
  pub entry : Entry Rule

pub record Stored : Type 0 where
  pub rows : List (Name × Slot)
  pub drawn : ℕ

-- a new entry has version 0
abbrev pub new_slot : Slot
new_slot = record { version = 0; entry = empty_entry }

abbrev pub row_at : ℕ → List (Name × Slot) → Name × Slot
row_at i rows = slice_index_or rows i ([], new_slot)

abbrev pub name_at : ℕ → Stored → Name
name_at i s = (row_at i s.rows).0

abbrev pub version_at : ℕ → Stored → ℕ
version_at i s = (row_at i s.rows).1.version

abbrev pub entry_at : ℕ → Stored → Entry Rule
entry_at i s = (row_at i s.rows).1.entry

abbrev pub names : Stored → List Name
names s = map (λ r. r.0) s.rows

-- an index is one of an entry that the store has
abbrev pub IsIndex : ℕ → Stored → Type 0
IsIndex i s = i < length s.rows

-- the entry without stamps of a name, which is the empty one where the store has none
abbrev pub plain_entry : Option Slot → Entry PlainRule
plain_entry None = empty_entry
plain_entry (Some w) = map_entry plain_rule w.entry

abbrev pub definitions : Stored → Definitions
definitions s x = plain_entry (value_at x s.rows)

-- ---- changes

-- no number is drawn twice but the last one
abbrev pub next_version : ℕ → ℕ
next_version n = min (n + 1) (2 ^ 64 - 1)

-- the rows with another slot at an index
abbrev pub with_slot : ℕ → Slot → List (Name × Slot) → List (Name × Slot)
with_slot i w rows = slice_set rows i ((row_at i rows).0, w)

-- the store in which the entry of an index is another one, with a version that is drawn for it; all else is as before
abbrev pub changed : ℕ → Entry Rule → Stored → Stored
changed i e s = record { rows = with_slot i (record { version = next_version s.drawn; entry = e }) s.rows; drawn = next_version s.drawn }
