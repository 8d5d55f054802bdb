-- When the stamps of an expression are true, and what a store that comes from another leaves of them.
use Rattle.std.specs.Prelude.{◌≡◌, ◌≢◌, ℕ, ◌≤◌, false, List, map, length, Option, Some, None, ⊤}
use Rattle.std.specs.List.{All, Contains}
use Rattle.wl_expr.specs.Passed.{AtStamps}
use Rattle.wl_expr.specs.Stamped.{Stamped, plain, stamp_of}
use Rattle.wl_expr.specs.Tree.{Tree}
use Rattle.wl_expr.specs.Words.{Name}
use Rattle.wl_expr.specs.declared.stamp.Stamp.{Stamp}
use Rattle.wl_rules.specs.Entries.{Definitions, Rules, of_kind}
use Rattle.wl_rules.specs.Stored.{Stored, IsIndex, row_at, name_at, version_at, entry_at, definitions}
use Rattle.wl_rules.specs.declared.rule.Rule.{Rule}
use Rattle.wl_rules.specs.declared.rule.RuleKind.{RuleKind}
use Rattle.wl_stamps.specs.Live.{IsLive, last_version}
use Rattle.wl_stamps.specs.Reads.{Read, AreDistinct}
use Rattle.wl_semantics.specs.State.{State}
use Rattle.wl_semantics.specs.Eval.{Record}
use Rattle.wl_semantics.specs.Local.{Enough}
use Rattle.wl_semantics.specs.Settled.{Settled, turn_of}

-- ---- names as sets

pub record Same (xs ys : List Name) : Type 0 where
  pub to : (x : Name) → Contains xs x → Contains ys x
  pub from : (x : Name) → Contains ys x → Contains xs x

-- both give each of these names the same entry
abbrev pub AgreeOn : Definitions → Definitions → List Name → Type 0
AgreeOn f g xs = (x : Name) → Contains xs x → f x ≡ g x

-- ---- a true stamp

-- the names of these reads
abbrev pub names_in : Stored → List Read → List Name
names_in a rs = map (λ r. name_at r.0 a) rs

-- a read is of an entry that the store has, and its version is no greater than the number that was drawn last
abbrev pub IsKnown : Stored → Read → Type 0
IsKnown a r = IsIndex r.0 a × (r.1 ≤ a.drawn)

abbrev pub AreKnown : Stored → List Read → Type 0
AreKnown a rs = All (IsKnown a) rs

-- what a stamp with these names says that was done
abbrev pub record_of : List Name → Stamp → Record
record_of xs p = record { names = xs; effect = false; steps = p.steps; depth = p.depth; turns = p.turns; out = false }

-- the stamp's names are those that the turn read, each once, and its numbers are the turn's
pub record Costs (xs : List Name) (p : Stamp) (d : Record) : Type 0 where
  pub names : Same xs d.names
  pub once : AreDistinct p.reads
  pub steps : p.steps ≡ d.steps
  pub depth : p.depth ≡ d.depth
  pub turns : p.turns ≡ d.turns

-- in each state that agrees on these names and has room, the tree is settled, and its turn costs what the stamp says
abbrev pub HoldsOf : Definitions → List Name → Stamp → Tree → Type 0
HoldsOf f xs p t = (s : State) → AgreeOn f s.world.definitions xs → Enough s (record_of xs p) → Settled s t × Costs xs p (turn_of t s).did

pub record IsTrueStamp (a : Stored) (p : Stamp) (t : Tree) : Type 0 where
  pub known : AreKnown a p.reads
  pub holds : IsLive a p → HoldsOf (definitions a) (names_in a p.reads) p t

-- the stamp on top, where there is one
abbrev pub IsTrueTop : Stored → Option Stamp → Tree → Type 0
IsTrueTop a None t = ⊤
IsTrueTop a (Some p) t = IsTrueStamp a p t

-- each stamp of the expression is true
abbrev pub HonestIn : Stored → Stamped → Type 0
HonestIn a e = AtStamps (λ u. IsTrueTop a (stamp_of u) (plain u)) e

-- ---- what is kept

abbrev pub HonestOption : Stored → Option Stamped → Type 0
HonestOption a None = ⊤
HonestOption a (Some e) = HonestIn a e

abbrev pub HonestRule : Stored → Rule → Type 0
HonestRule a r = HonestIn a r.left × HonestIn a r.body

abbrev pub HonestRules : Stored → Rules Rule → Type 0
HonestRules a rs = (k : RuleKind) → All (HonestRule a) (of_kind k rs)

-- the rules of each entry are honest
abbrev pub HonestStore : Stored → Type 0
HonestStore a = (i : ℕ) → HonestRules a (entry_at i a).rules

-- ---- two stores

-- The second store came from the first: an entry keeps its place and its name, and where its version isn't new, and not the last
-- number, it is as it was.
pub record Grows (a b : Stored) : Type 0 where
  pub more : length a.rows ≤ length b.rows
  pub drawn : a.drawn ≤ b.drawn
  pub names : (i : ℕ) → IsIndex i a → name_at i b ≡ name_at i a
  pub versions : (i : ℕ) → IsIndex i a → version_at i b ≤ a.drawn → version_at i b ≢ last_version → version_at i b ≡ version_at i a
  pub entries : (i : ℕ) → IsIndex i a → version_at i b ≤ a.drawn → version_at i b ≢ last_version → definitions b (name_at i a) ≡ definitions a (name_at i a)

-- nothing but new, empty entries
pub record Kept (a b : Stored) : Type 0 where
  pub more : length a.rows ≤ length b.rows
  pub drawn : b.drawn ≡ a.drawn
  pub rows : (i : ℕ) → IsIndex i a → row_at i b.rows ≡ row_at i a.rows
  pub definitions : definitions b ≡ definitions a
