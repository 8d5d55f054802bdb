-- What a list of tokens reads as: its right tree, or why it has none.
use Rattle.std.specs.Prelude.{ℕ, Bool, true, false, ◌≡◌, ◌+◌, ◌<◌, ◌≤◌, List, Option, Some, None, Result, Ok, Err, take, length}
use Rattle.wl_syntax.specs.declared.parser.TreeFault.{TreeFault}
use Rattle.wl_syntax.specs.declared.parser.TreeFault.TheVariants.{Memory, Unclosed, Unexpected}
use Rattle.wl_syntax.specs.Token.{Token}
use Rattle.wl_syntax.specs.Tree.{Tree, Right, reads}
use Rattle.wl_syntax.specs.Polish.{Node, polish}
use Rattle.wl_syntax.specs.Ending.{Viable}

-- t is the tree of these tokens
abbrev pub IsTreeOf : List Token → Tree → Type 0
IsTreeOf ks t = Right t × (reads t ≡ ks)

abbrev pub HasNoTree : List Token → Type 0
HasNoTree ks = (t : Tree) → IsTreeOf ks t → ⊥

-- The tokens are the beginning of a right text, and none themselves.
abbrev pub IsUnclosed : List Token → Type 0
IsUnclosed ks = HasNoTree ks × Viable ks

-- They aren't viable, and the token of this place is the first with which the list so far isn't.
pub record IsUnexpected (ks : List Token) (place : ℕ) : Type 0 where
  pub within : place < length ks
  pub no_tree : HasNoTree ks
  pub not_viable : Viable ks → ⊥
  pub ends_it : Viable (take (place + 1) ks) → ⊥
  pub before : (j : ℕ) → j ≤ place → Viable (take j ks)

abbrev pub IsParsed : {V : Type 0} → (V → List Node) → List Token → Result V TreeFault → Type 0
IsParsed nodes ks (Ok v) = (t : Tree) × IsTreeOf ks t × (nodes v ≡ polish t)
IsParsed nodes ks (Err Memory) = Unit {0}
IsParsed nodes ks (Err Unclosed) = IsUnclosed ks
IsParsed nodes ks (Err (Unexpected place)) = IsUnexpected ks place

-- the place of the first token behind which the levels weren't met
abbrev pub first_unmet : Option ℕ → Bool → ℕ → Option ℕ
first_unmet (Some b) met place = Some b
first_unmet None true place = None
first_unmet None false place = Some place
