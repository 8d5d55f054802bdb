-- Local names as the code has them, what of them is honest, and what is held for a Block.
use Rattle.std.specs.Prelude.{Vec, ◌≡◌, ◌≤◌, List, [], ◌∷◌, map, Option, Some, None, option_map, IfSome}
use Rattle.std.specs.List.{All}
use Rattle.std.proofs.Common.{Global}
use Rattle.wl_expr.specs.Stamped.{Stamped, plain}
use Rattle.wl_expr.specs.Tree.{Tree, symbol, depth}
use Rattle.wl_expr.specs.Words.{Name}
use Rattle.wl_rules.specs.Entries.{map_rules}
use Rattle.wl_rules.specs.StampedRules.{plain_rule}
use Rattle.wl_rules.specs.Stored.{Stored, definitions}
use Rattle.wl_shape.specs.Scopes as scopes
use Rattle.wl_shape.specs.Scopes.{Needs, locals}
use Rattle.wl_state.specs.Honest.{HonestIn, HonestOption}
use Rattle.wl_semantics.specs.Prog.{Prog, done, ◌>>=◌}
use Rattle.wl_semantics.specs.Scoping as scoping
use Rattle.wl_state.specs.Played.{Seen, IsTaken, IsUnprotected, MayHave}
use Rattle.wl_state.specs.declared.evaluator.Evaluator.{Evaluator}
use Rattle.wl_state.specs.declared.locals.Local.{Local}
use Rattle.wl_state.specs.declared.scoping.Held.{Held}

-- ---- local names

-- the name of a symbol
abbrev pub name_in : Tree → Name
name_in (symbol x) = x
name_in t = []

abbrev pub IsSymbol : Stamped → Type 0
IsSymbol e = plain e ≡ symbol (name_in (plain e))

abbrev pub local_in : Local → scopes.Local
local_in l = record { name = name_in (plain l.name); value = option_map plain l.value }

abbrev pub locals_in : List Local → List scopes.Local
locals_in ls = map local_in ls

abbrev pub AreSymbols : List Local → Type 0
AreSymbols ls = All (λ l. IsSymbol l.name) ls

-- a symbol and its value, both honest
pub record IsLocal (a : Stored) (l : Local) : Type 0 where
  pub symbol : IsSymbol l.name
  pub name : HonestIn a l.name
  pub value : HonestOption a l.value

abbrev pub AreLocals : Stored → List Local → Type 0
AreLocals a ls = All (IsLocal a) ls

-- a local name with its initial value, and a list of such
abbrev pub local : Seen Local scopes.Local
local = record { view = local_in; good = λ k l. IsLocal k.store l }

abbrev pub local_list : Seen (Vec Local Global) (List scopes.Local)
local_list = record { view = λ v. locals_in v.items; good = λ k v. AreLocals k.store v.items }

-- ---- what a row reads

-- local names and body of the two elements
abbrev pub with_body_of : Option (List scopes.Local) → Tree → Option (List scopes.Local × Tree)
with_body_of None b = None
with_body_of (Some ls) b = Some (ls, b)

abbrev pub scope_parts : Needs → List Tree → Option (List scopes.Local × Tree)
scope_parts k (v ∷ b ∷ []) = with_body_of (locals k v) b
scope_parts k es = None

-- ---- Block

-- the definitions protect the same names
abbrev pub Protects : Evaluator → Evaluator → Type 0
Protects k k' = (x : Name) → (definitions k'.store x).attributes.protected ≡ (definitions k.store x).attributes.protected

-- a name that Block may give its value
pub record IsFree (k : Evaluator) (l : Local) : Type 0 where
  pub unprotected : IsUnprotected (name_in (plain l.name)) k
  pub limits : (v : Stamped) → l.value ≡ Some v → MayHave (name_in (plain l.name)) (plain v)

abbrev pub AreFree : Evaluator → List Local → Type 0
AreFree k ls = All (IsFree k) ls

abbrev pub held_in : Held → scoping.Taken
held_in h = record { name = name_in (plain h.name); rules = map_rules plain_rule h.taken.rules }

abbrev pub AreHeld : Evaluator → List Held → Type 0
AreHeld k hs = All (λ h. IsTaken k (name_in (plain h.name)) h.taken) hs

-- what is done to the entries before what is inside: the names looked at, their rules set aside, and their values set
abbrev pub aside : List scopes.Local → Prog (List scoping.Taken)
aside vs = do
  os ← scoping.blocked [] vs
  ts ← scoping.take_all [] os
  _ ← scoping.set_all os
  done ts

-- a value that no filling makes deeper
abbrev pub IsShallow : Local → Type 0
IsShallow l = IfSome l.value (λ v. depth (plain v) ≤ 1)

abbrev pub AreShallow : List Local → Type 0
AreShallow ls = All IsShallow ls
