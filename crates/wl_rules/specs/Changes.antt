-- What the calls of a store promise.
use Rattle.std.specs.Prelude.{◌≡◌, ◌<◌, ◌-◌, ◌^◌, ◌++◌, ℕ, true, List, [], ◌∷◌, None, ⊤}
use Rattle.wl_expr.specs.Words.{Name, Bytes}
use Rattle.wl_rules.specs.Attributes.{AttributeSet}
use Rattle.wl_rules.specs.Entries.{Entry, PlainRule, with_entry, value_at}
use Rattle.wl_rules.specs.Stored.{Slot, Stored, new_slot, IsIndex, name_at, version_at, entry_at, definitions}

-- the definitions after are those before, but for one name, whose entry is what is made of its old one
abbrev pub Defines : Name → (Entry PlainRule → Entry PlainRule) → Stored → Stored → Type 0
Defines x make old new = (y : Name) → definitions new y ≡ with_entry x (make (definitions old x)) (definitions old) y

-- the version that an entry gets is greater than all that were drawn before, while the last number isn't reached; from then on it is that number
pub record Draws (index : ℕ) (old new : Stored) : Type 0 where
  pub greater : old.drawn < 2 ^ 64 - 1 → old.drawn < version_at index new
  pub than_each : old.drawn < 2 ^ 64 - 1 → (j : ℕ) → version_at j old < version_at index new
  pub last : old.drawn ≡ 2 ^ 64 - 1 → version_at index new ≡ 2 ^ 64 - 1
  pub noted : new.drawn ≡ version_at index new

abbrev pub IsProtected : ℕ → Stored → Type 0
IsProtected i s = (entry_at i s).attributes.protected ≡ true

-- one more name behind the others, with the empty entry
abbrev pub with_name : Name → Stored → Stored
with_name x s = record s { rows = s.rows ++ (x, new_slot) ∷ [] }

-- ---- what is shown of an entry

pub record Shown : Type 0 where
  pub index : ℕ
  pub attributes : AttributeSet
  pub messages : List (Bytes × Bytes)
  pub off : List (Bytes × Unit {0})

-- what is shown is the entry of this name, at its index
pub record IsShown (x : Name) (s : Stored) (v : Shown) : Type 0 where
  pub index : IsIndex v.index s
  pub name : name_at v.index s ≡ x
  pub attributes : v.attributes ≡ (definitions s x).attributes
  pub messages : v.messages ≡ (definitions s x).messages
  pub off : v.off ≡ (definitions s x).off

-- no two names are one
abbrev pub AreDistinct : List (Name × Slot) → Type 0
AreDistinct [] = ⊤
AreDistinct (r ∷ rs) = (value_at r.0 rs ≡ None) × AreDistinct rs
