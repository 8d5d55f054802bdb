-- What each step of the builder makes of the pieces that its items stand for.
use Rattle.std.specs.Prelude.{ℕ, Bool, ◌+◌, min, max, if◌then◌else◌, ◌≡◌, ◌≤◌, ◌<◌, List, [], ◌∷◌, None, Result, Ok, Err}
use Rattle.wl_expr.specs.Stamped.{Stamped, unstamped}
use Rattle.wl_syntax.specs.declared.operator.Infix.{Infix}
use Rattle.wl_syntax.specs.declared.build.Group.{Group}
use Rattle.wl_syntax.specs.declared.build.Args.{Args}
use Rattle.wl_syntax.specs.declared.build.Item.{Item}
use Rattle.wl_syntax.specs.declared.build.Item.TheVariants as code
use Rattle.wl_syntax.specs.declared.build.BuildFault.{BuildFault}
use Rattle.wl_syntax.specs.declared.build.BuildFault.TheVariants.{Memory, TooDeep}
use Rattle.wl_syntax.specs.declared.chain.Form.{Form}
use Rattle.wl_syntax.specs.Built.{Piece, tree, calling, listing, IsGroup, Is, AreFrom}
use Rattle.wl_syntax.specs.Depth.{depth, max_depth}
use Rattle.wl_syntax.specs.Lower.{lower}
use Rattle.wl_syntax.specs.Tree.{Tree, brace, call, part, between, Elems, none, more}

-- a group of one expression, which no number is reached from
pub record IsAlone (g : Group) (f : Form) (e : Stamped) (n : ℕ) : Type 0 where
  pub has_form : g.form ≡ f
  pub has_reach : g.reach ≡ None
  pub has_items : g.items.items ≡ e ∷ []
  pub has_depth : g.depth ≡ n
  pub has_pairs : g.pairs ≡ n

abbrev pub IsOne : Item → Form → Stamped → ℕ → Type 0
IsOne (code.Whole g) f e n = IsAlone g f e n
IsOne _ f e n = ⊥

-- a tree becomes another
abbrev pub Wraps : Item → Item → (Tree → Tree) → Type 0
Wraps i j f = (t : Tree) → Is i (tree t) → Is j (tree (f t))

abbrev pub Joins : Item → Item → Item → (Tree → Tree → Tree) → Type 0
Joins i j k f = (l r : Tree) → Is i (tree l) → Is j (tree r) → Is k (tree (f l r))

-- an element behind the head of a call, behind other elements, or in a list
abbrev pub with_element : Piece → Tree → Piece
with_element (tree f) x = calling f (more none x)
with_element (calling f xs) x = calling f (more xs x)
with_element (listing xs) x = listing (more xs x)

abbrev pub AddsElement : Item → Item → Item → Type 0
AddsElement i j k = (p : Piece) (x : Tree) → Is i p → Is j (tree x) → Is k (with_element p x)

abbrev pub whole_call : Piece → Tree
whole_call (tree f) = call f none
whole_call (calling f xs) = call f xs
whole_call (listing xs) = brace xs

abbrev pub EndsCall : Item → Item → Type 0
EndsCall i j = (p : Piece) → Is i p → Is j (tree (whole_call p))

abbrev pub EndsPart : Item → Item → Type 0
EndsPart i j = (f : Tree) (xs : Elems) (t : Tree) → Is i (calling f (more xs t)) → Is j (tree (part f xs t))

-- the last item is taken off
abbrev pub Takes : List Item → List Item → Item → Type 0
Takes is js i = (p : Piece) (ps : List Piece) → AreFrom is (p ∷ ps) → Is i p × AreFrom js ps

-- the expression of a tree that isn't too deep
abbrev pub Lowers : Tree → Result Stamped BuildFault → Type 0
Lowers t (Ok e) = (depth t ≤ max_depth) × (e ≡ unstamped (lower t))
Lowers t (Err Memory) = Unit {0}
Lowers t (Err TooDeep) = max_depth < depth t

-- the parts of the calls that take items apart
abbrev pub JoinsGroups : Group → Group → Item → Infix → Type 0
JoinsGroups g h k o = (l r : Tree) → IsGroup g l → IsGroup h r → Is k (tree (between l o r))

abbrev pub Begins : Group → Group → Item → Type 0
Begins g h k = (f x : Tree) → IsGroup g f → IsGroup h x → Is k (calling f (more none x))

abbrev pub AddsTo : Args → Group → Item → Type 0
AddsTo a h k = (p : Piece) (x : Tree) → Is (code.Args a) p → IsGroup h x → Is k (with_element p x)

-- the depth of a pair as nested pairs, capped
abbrev pub joined_pairs : Bool → ℕ → ℕ → ℕ → ℕ
joined_pairs same p r d = if same then min (1 + max p r) (max_depth + 1) else d
