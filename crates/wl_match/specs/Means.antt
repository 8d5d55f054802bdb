-- What the numbers of a search mean, for the parts of a pattern and a subject.
use Rattle.std.specs.Prelude.{◌≡◌, ℕ, zero, suc, ◌+◌, ◌-◌, ◌≤◌, ◌<◌, Bool, true, IsTrue, List, [], ◌∷◌, ◌++◌, take, drop, map, length, string_bytes, Option, Some, None, get_or, nat_eq, nat_lt}
use denote.Bor.{Bor}
use Rattle.wl_expr.specs.Tree.{Tree, symbol}
use Rattle.wl_expr.specs.Stamped.{Stamped, plain}
use Rattle.wl_match.specs.declared.flags.Flags.{Flags}
use Rattle.wl_match.specs.declared.part.Part.{Part}
use Rattle.wl_match.specs.declared.part.Part.TheVariants as part
use Rattle.wl_match.specs.declared.taken.Taken.{Taken}
use Rattle.wl_match.specs.declared.taken.Taken.TheVariants as taken
use Rattle.wl_match.specs.declared.taken.Goal.{Goal}
use Rattle.wl_match.specs.declared.taken.Goal.TheVariants.{Match, Members, Turn, Elements, Lengths, Pick, Bind, Note}
use Rattle.wl_match.specs.declared.taken.Mark.{Mark}
use Rattle.wl_match.specs.declared.taken.Mark.TheVariants.{Bound, Noted}
use Rattle.wl_match.specs.declared.stack.Cell.{Cell}
use Rattle.wl_match.specs.declared.taken.Choice.{Choice}
use Rattle.wl_match.specs.Pattern.{Count, one, some, any, no_flags, Ask, applies, holds, refuses, Pat, Pats, end, also}
use Rattle.wl_match.specs.Search.{Entry, bound, noted, Trail, Leaf, leaves, Cont, fail, found, or_fail, bind, note, run_of}
use Rattle.wl_match.specs.Trials.{least, lengths, Site, Took, trials, members, in_turn, elements, takes, pick, shaped, stretches, absent, default_of, name_of, each_length}
use Rattle.std.specs.List.{All}
use Rattle.wl_match.specs.Parts as parts
use Rattle.wl_match.specs.Parts.{has_own_head, nothing, pat, pat_of, pats_of}
use Rattle.wl_match.specs.Runs.{part_at, run_at}

-- the parts inside a part that has a list of them
abbrev pub children : Part → List ℕ
children (part.Alternatives qs) = qs.items
children (part.Nodes g h hp qs) = qs.items
children _ = []

abbrev pub inside : List Part → ℕ → List ℕ
inside ss i = children (part_at ss i)

abbrev pub name_at : Part → List ℕ
name_at (part.Named x q) = string_bytes x
name_at _ = []

abbrev pub ask_at : Part → Ask
ask_at (part.Applies t q) = applies (plain t)
ask_at (part.Holds c q) = holds (plain c)
ask_at (part.Except c q) = refuses (plain c)
ask_at _ = holds (symbol [])

abbrev pub head_at : Part → Tree
head_at (part.Nodes g h hp qs) = plain h
head_at _ = symbol []

abbrev pub flags_at : Part → Flags
flags_at (part.Nodes g h hp qs) = g
flags_at _ = no_flags

abbrev pub site_at : List Part → ℕ → Site
site_at ss i = record { head = head_at (part_at ss i); flags = flags_at (part_at ss i) }

-- the patterns inside part i from the j-th on
abbrev pub from_child : List Part → ℕ → ℕ → Pats
from_child ss i j = pats_of (pat ss) (drop j (inside ss i))

-- the first pattern on a run, and the others on what is left
abbrev pub taking : Site → ℕ → Pat → Pats → Cont → Trail → Took
taking s j p ps k e r l = trials p (shaped (stretches s p) s.head r) (λ d. elements s (j + 1) ps l k d) e

abbrev pub lengths_on : Site → ℕ → Pats → List Tree → ℕ → ℕ → Cont → Cont
lengths_on s j end left low n k e = fail
lengths_on s j (also p ps) left low n k e =
    or_fail (each_length (takes s.flags.orderless (taking s j p ps k e) left) (absent (default_of s j p) (name_of p) (λ d. elements s (j + 1) ps left k d) e) low n)

abbrev pub tree_among : List Tree → ℕ → Tree
tree_among ts i = get_or ts i (symbol [])

abbrev pub picks_on : Site → ℕ → Pats → List Tree → ℕ → ℕ → List ℕ → List ℕ → Cont → Cont
picks_on s j end left m at chosen skipped k e = fail
picks_on s j (also p ps) left m at chosen skipped k e =
    pick (taking s j p ps k e) m (map (tree_among left) chosen) (map (tree_among left) skipped) (drop at left)

abbrev pub goal_means : List Part → Tree → Goal → Cont → Cont
goal_means ss t (Match i r) k e = trials (pat ss i) (run_at ss t r) k e
goal_means ss t (Members i from r) k e = or_fail (members (from_child ss i from) (run_at ss t r) k e)
goal_means ss t (Turn i r) k e = in_turn (λ s l. trials (pat ss i) s l) (run_at ss t r) k e
goal_means ss t (Elements i j r) k e = elements (site_at ss i) (j + 1) (from_child ss i j) (run_at ss t r) k e
goal_means ss t (Lengths i j r low n) k e = lengths_on (site_at ss i) (j + 1) (from_child ss i j) (run_at ss t r) low n k e
goal_means ss t (Pick i j r m at chosen skipped) k e = picks_on (site_at ss i) (j + 1) (from_child ss i j) (run_at ss t r) m at chosen skipped k e
goal_means ss t (Bind i r) k e = bind (name_at (part_at ss i)) (run_at ss t r) k e
goal_means ss t (Note i r) k e = note (ask_at (part_at ss i)) (run_at ss t r) k e

-- the first goal first
abbrev pub conts : List Part → Tree → List Goal → Cont
conts ss t [] e = found e
conts ss t (g ∷ gs) e = goal_means ss t g (λ d. conts ss t gs d) e

abbrev pub entry_of : List Part → Tree → Mark → Entry
entry_of ss t (Bound i r) = bound (name_at (part_at ss i)) (run_at ss t r)
entry_of ss t (Noted i r) = noted (ask_at (part_at ss i)) (run_at ss t r)

abbrev pub entries : List Part → Tree → List Mark → List Entry
entries ss t ms = map (entry_of ss t) ms

abbrev pub no_cell : Cell
no_cell = record { goal = Bind 0 (taken.Tree (record { root = None; steps = [] })); next = 0 }

abbrev pub cell_at : List Cell → ℕ → Cell
cell_at cs k = get_or cs k no_cell

abbrev pub link : ℕ → List Goal → List Goal → List Goal
link zero earlier here = earlier
link (suc m) earlier here = here

-- a list of goals among the k oldest cells: that of the n-th cell, or of the last where there are fewer
abbrev pub chain : List Cell → ℕ → ℕ → List Goal
chain cs zero n = []
chain cs (suc k) n = link (n - k) (chain cs k n) ((cell_at cs k).goal ∷ chain cs k (cell_at cs k).next)

abbrev pub goals_at : List Cell → ℕ → List Goal
goals_at cs n = chain cs (length cs) n

-- the first goal of a list, and the list of the others
abbrev pub Firsts : List Cell → ℕ → Option (Goal × ℕ) → Type 0
Firsts cs n None = goals_at cs n ≡ []
Firsts cs n (Some x) = (goals_at cs n ≡ x.0 ∷ goals_at cs x.1) × (x.1 ≤ length cs)

-- the leaves of the choices that are left, the first choice first
abbrev pub after : List Part → Tree → List Cell → List Mark → List Choice → List Leaf
after ss t cells ms [] = []
after ss t cells ms (c ∷ cs) =
    leaves (conts ss t (goals_at (take c.cells cells) c.goals) (entries ss t (take c.marks ms))) ++ after ss t (take c.cells cells) (take c.marks ms) cs

-- what is known of a part that was looked up
pub record IsPart (ss : List Part) (i : ℕ) (s : Part) : Type 0 where
  pub part : part_at ss i ≡ s
  pub is : pat ss i ≡ pat_of (pat ss) s
  pub behind : All (λ j. j < i) (parts.inside s)
  pub own : IsTrue (has_own_head (pat ss i))

pub record NoPart (ss : List Part) (i : ℕ) : Type 0 where
  pub part : part_at ss i ≡ part.Hold 0
  pub is : pat ss i ≡ nothing

abbrev pub Looked : List Part → ℕ → Option (Bor Part) → Type 0
Looked ss i None = NoPart ss i
Looked ss i (Some s) = IsPart ss i s.now

abbrev pub allows_length : Count → ℕ → Bool
allows_length one n = nat_eq n 1
allows_length some n = nat_lt 0 n
allows_length any n = true

-- what a mark binds to a name
abbrev pub BindsTo : List Part → List ℕ → Mark → Option (Bor Taken) → Type 0
BindsTo ss x m None = (t : Tree) (e : List Entry) → run_of x (entry_of ss t m ∷ e) ≡ run_of x e
BindsTo ss x m (Some r) = (t : Tree) (e : List Entry) → run_of x (entry_of ss t m ∷ e) ≡ Some (run_at ss t r.now)

-- the lengths that the first pattern from the j-th on may take, of n expressions
abbrev pub HasSpan : List Part → ℕ → ℕ → ℕ → ℕ → ℕ → Type 0
HasSpan ss i j n low count = (p : Pat) (ps : Pats) → from_child ss i j ≡ also p ps → (low ≡ least (site_at ss i) p ps n) × (count ≡ lengths (site_at ss i) p ps n)

-- the j-th of the patterns inside part i
abbrev pub IsChild : List Part → ℕ → ℕ → Option ℕ → Type 0
IsChild ss i j None = from_child ss i j ≡ end
IsChild ss i j (Some q) = from_child ss i j ≡ also (pat ss q) (from_child ss i (j + 1))

abbrev pub nowhere : Site
nowhere = record { head = symbol []; flags = no_flags }

abbrev pub site_of : Part → Site
site_of s = record { head = head_at s; flags = flags_at s }

-- the head of a part that is a node
abbrev pub IsHead : Part → Option (Bor Stamped) → Type 0
IsHead s None = site_of s ≡ nowhere
IsHead s (Some h) = head_at s ≡ plain h.now

abbrev pub IsHeadAt : List Part → ℕ → Option (Bor Stamped) → Type 0
IsHeadAt ss i o = IsHead (part_at ss i) o

-- whether there is more than this length: a longer one, or a default
abbrev pub has_later : ℕ → Option ℕ → Bool
has_later n None = nat_lt 1 n
has_later n (Some d) = true
