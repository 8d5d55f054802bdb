-- The pattern that a list of parts is. Each part names parts inside it by their places in the list, and stands behind them.
use Rattle.std.specs.Prelude.{◌≡◌, ℕ, ◌+◌, ◌-◌, ◌<◌, ◌≤◌, Bool, true, false, not, ◌||◌, IsTrue, List, [], ◌∷◌, ◌++◌, length, get_or, string_bytes, Option, Some, None, option_map, ⊤}
use Rattle.std.specs.List.{All}
use Rattle.wl_expr.specs.Passed.{IsFrom}
use Rattle.wl_expr.specs.Words.{natural}
use Rattle.wl_expr.specs.Tree.{Tree}
use Rattle.wl_expr.specs.Same.{same}
use Rattle.wl_expr.specs.Stamped.{Stamped, plain, plains, from_list}
use Rattle.wl_match.specs.declared.flags.Flags.{Flags}
use Rattle.wl_match.specs.declared.part.Number.{Number}
use Rattle.wl_match.specs.declared.part.Number.TheVariants as number
use Rattle.wl_match.specs.declared.part.Part.{Part}
use Rattle.wl_match.specs.declared.part.Part.TheVariants as part
use Rattle.wl_match.specs.Heads.{heads, heads_in}
use Rattle.wl_match.specs.Pattern.{Count, one, some, any, applies, holds, Pat, exactly, blank, named, tested, hold, optional, alternatives, repeated, except, nodes, Pats, end, also}
use Rattle.wl_match.specs.Placed.{placed, placed_in}

-- a pattern that matches nothing
abbrev pub nothing : Pat
nothing = alternatives end

abbrev pub count_of : Number → Count
count_of number.One = one
count_of number.Some = some
count_of number.Any = any

abbrev pub pats_of : (ℕ → Pat) → List ℕ → Pats
pats_of f [] = end
pats_of f (i ∷ is) = also (f i) (pats_of f is)

-- what stands beside what is excepted: any one expression where nothing does
abbrev pub inner_or_blank : (ℕ → Pat) → Option ℕ → Pat
inner_or_blank f None = blank one None
inner_or_blank f (Some i) = f i

-- a part, by the patterns at places
abbrev pub pat_of : (ℕ → Pat) → Part → Pat
pat_of f (part.Exactly t) = exactly (plain t)
pat_of f (part.Blank c h) = blank (count_of c) (option_map plain h)
pat_of f (part.Named x q) = named (string_bytes x) (f q)
pat_of f (part.Applies t q) = tested (applies (plain t)) (f q)
pat_of f (part.Holds c q) = tested (holds (plain c)) (f q)
pat_of f (part.Hold q) = hold (f q)
pat_of f (part.Optional d q) = optional (option_map plain d) (f q)
pat_of f (part.Alternatives qs) = alternatives (pats_of f qs.items)
pat_of f (part.Repeated c q) = repeated (count_of c) (f q)
pat_of f (part.Except t q) = except (plain t) (inner_or_blank f q)
pat_of f (part.Nodes g h hp qs) = nodes g (plain h) (f hp) (pats_of f qs.items)

abbrev pub at : List Pat → ℕ → Pat
at ps i = get_or ps i nothing

-- the patterns of parts, behind those of the parts before
abbrev pub table : List Pat → List Part → List Pat
table ps [] = ps
table ps (s ∷ ss) = table (ps ++ pat_of (at ps) s ∷ []) ss

-- the pattern at a place of a list of parts
unfoldable pub pat : List Part → ℕ → Pat
pat ss i = at (table [] ss) i

-- the pattern of the last part
abbrev pub whole : List Part → Pat
whole ss = pat ss (length ss - 1)

-- the first two parts are 0 and 1
abbrev pub HasDefaults : List Part → Type 0
HasDefaults ss = (pat ss 0 ≡ exactly (natural 0)) × (pat ss 1 ≡ exactly (natural 1))

abbrev pub is_exactly : Tree → Pat → Bool
is_exactly t (exactly u) = same t u
is_exactly t _ = false

-- where the elements of a node may stand as one expression, its head matches itself alone
abbrev pub has_own_head : Pat → Bool
has_own_head (nodes f h hp ps) = not f.flat || is_exactly h hp
has_own_head _ = true

abbrev pub HaveOwnHeads : List Part → Type 0
HaveOwnHeads ss = (i : ℕ) → IsTrue (has_own_head (pat ss i))

-- the expressions that a part keeps
abbrev pub some_kept : Option Stamped → List Stamped
some_kept None = []
some_kept (Some t) = t ∷ []

abbrev pub kept_by : Part → List Stamped
kept_by (part.Exactly t) = t ∷ []
kept_by (part.Blank c h) = some_kept h
kept_by (part.Named x q) = []
kept_by (part.Applies t q) = t ∷ []
kept_by (part.Holds c q) = c ∷ []
kept_by (part.Hold q) = []
kept_by (part.Optional d q) = some_kept d
kept_by (part.Alternatives qs) = []
kept_by (part.Repeated c q) = []
kept_by (part.Except t q) = t ∷ []
kept_by (part.Nodes g h hp qs) = h ∷ []

unfoldable pub kept : List Part → List Stamped
kept [] = []
kept (s ∷ ss) = kept_by s ++ kept ss

-- the places that a part names
abbrev pub inside : Part → List ℕ
inside (part.Exactly t) = []
inside (part.Blank c h) = []
inside (part.Named x q) = q ∷ []
inside (part.Applies t q) = q ∷ []
inside (part.Holds c q) = q ∷ []
inside (part.Hold q) = q ∷ []
inside (part.Optional d q) = q ∷ []
inside (part.Alternatives qs) = qs.items
inside (part.Repeated c q) = q ∷ []
inside (part.Except t None) = []
inside (part.Except t (Some q)) = q ∷ []
inside (part.Nodes g h hp qs) = hp ∷ qs.items

abbrev pub inside_some : Option Part → List ℕ
inside_some None = []
inside_some (Some s) = inside s

-- each part stands behind those that it names, of which n stand before all
abbrev pub IsBehind : ℕ → List Part → Type 0
IsBehind n [] = ⊤
IsBehind n (s ∷ ss) = All (λ i. i < n) (inside s) × IsBehind (n + 1) ss

-- a part for a special form, or the pattern of an ordinary node where there is none
abbrev pub pat_or : (ℕ → Pat) → Option Part → Pat → Pat
pat_or f None p = p
pat_or f (Some s) p = pat_of f s

abbrev pub kept_by_some : Option Part → List Stamped
kept_by_some None = []
kept_by_some (Some s) = kept_by s

-- parts were added for this tree, the last of them its pattern
pub record Builds (fs : List Flags) (k : ℕ) (t : Stamped) (old : List Part) (i next : ℕ) (new : List Part) : Type 0 where
  pub last : i + 1 ≡ length new
  pub grows : length old ≤ length new
  pub keeps : (j : ℕ) → j < length old → pat new j ≡ pat old j
  pub is : pat new i ≡ placed fs k (plain t)
  pub next_is : next ≡ k + length (heads (plain t))
  pub passed : (ms : List Stamped) → All (IsFrom ms) (kept old) → IsFrom ms t → All (IsFrom ms) (kept new)
  pub behind : IsBehind 0 old → IsBehind 0 new
  pub heads : HaveOwnHeads old → HaveOwnHeads new

-- parts were added for each of these trees
pub record BuildsAll (fs : List Flags) (k : ℕ) (ts : List Stamped) (old : List Part) (is : List ℕ) (next : ℕ) (new : List Part) : Type 0 where
  pub below : All (λ i. i < length new) is
  pub grows : length old ≤ length new
  pub keeps : (j : ℕ) → j < length old → pat new j ≡ pat old j
  pub are : pats_of (pat new) is ≡ placed_in fs k (plains (from_list ts))
  pub next_is : next ≡ k + length (heads_in (plains (from_list ts)))
  pub passed : (ms : List Stamped) → All (IsFrom ms) (kept old) → All (IsFrom ms) ts → All (IsFrom ms) (kept new)
  pub behind : IsBehind 0 old → IsBehind 0 new
  pub heads : HaveOwnHeads old → HaveOwnHeads new

-- a part was put behind the others
pub record Puts (s : Part) (old : List Part) (i : ℕ) (new : List Part) : Type 0 where
  pub is : new ≡ old ++ s ∷ []
  pub at_end : i ≡ length old
