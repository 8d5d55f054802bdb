-- The trees of a run that is named by places in a subject and in the parts of a pattern.
use Rattle.std.specs.Prelude.{ℕ, zero, suc, Bool, false, List, [], ◌∷◌, take, drop, map, get_or, Option, Some, None}
use Rattle.wl_expr.specs.Tree.{Tree, node, to_list, from_list}
use Rattle.wl_expr.specs.Same.{same}
use Rattle.wl_expr.specs.Words.{head_of}
use Rattle.wl_expr.specs.Stamped.{plain}
use Rattle.wl_match.specs.declared.part.Part.{Part}
use Rattle.wl_match.specs.declared.part.Part.TheVariants as part
use Rattle.wl_match.specs.declared.taken.Place.{Place}
use Rattle.wl_match.specs.declared.taken.Taken.{Taken}
use Rattle.wl_match.specs.declared.taken.Taken.TheVariants as taken
use Rattle.wl_match.specs.declared.lent.Items.{Items}
use Rattle.wl_match.specs.declared.lent.Items.TheVariants as items
use Rattle.wl_match.specs.declared.lent.Lent.{Lent}
use Rattle.wl_match.specs.declared.lent.Lent.TheVariants as lent
use Rattle.wl_match.specs.declared.lent.Run.{Run}
use Rattle.wl_match.specs.declared.lent.Run.TheVariants as run

abbrev pub part_at : List Part → ℕ → Part
part_at ss i = get_or ss i (part.Hold 0)

-- the head at 0, else an element; the tree itself where there is none
abbrev pub child : ℕ → Tree → Tree
child zero (node h ts) = h
child (suc i) (node h ts) = get_or (to_list ts) i (node h ts)
child i t = t

abbrev pub follow : List ℕ → Tree → Tree
follow [] t = t
follow (i ∷ is) t = follow is (child i t)

abbrev pub elements_of : Tree → List Tree
elements_of (node h ts) = to_list ts
elements_of t = []

abbrev pub element_at : Tree → ℕ → Tree
element_at t i = get_or (elements_of t) i t

-- the expression that a part keeps
abbrev pub keeps : Part → Option Tree
keeps (part.Exactly t) = Some (plain t)
keeps (part.Blank c None) = None
keeps (part.Blank c (Some h)) = Some (plain h)
keeps (part.Named x q) = None
keeps (part.Applies t q) = Some (plain t)
keeps (part.Holds c q) = Some (plain c)
keeps (part.Hold q) = None
keeps (part.Optional None q) = None
keeps (part.Optional (Some d) q) = Some (plain d)
keeps (part.Alternatives qs) = None
keeps (part.Repeated c q) = None
keeps (part.Except t q) = Some (plain t)
keeps (part.Nodes g h hp qs) = Some (plain h)

abbrev pub or_tree : Tree → Option Tree → Tree
or_tree t None = t
or_tree t (Some u) = u

-- what the part at a place keeps
abbrev pub kept_at : List Part → Tree → ℕ → Tree
kept_at ss t i = or_tree t (keeps (part_at ss i))

abbrev pub root_at : List Part → Tree → Option ℕ → Tree
root_at ss t None = t
root_at ss t (Some i) = kept_at ss t i

abbrev pub tree_at : List Part → Tree → Place → Tree
tree_at ss t p = follow p.steps (root_at ss t p.root)

abbrev pub picked : Tree → List ℕ → List Tree
picked t is = map (element_at t) is

abbrev pub run_at : List Part → Tree → Taken → List Tree
run_at ss t taken.Nothing = []
run_at ss t (taken.Tree p) = tree_at ss t p ∷ []
run_at ss t (taken.Slice p from n) = take n (drop from (elements_of (tree_at ss t p)))
run_at ss t (taken.Picked p is) = picked (tree_at ss t p) is
run_at ss t (taken.Wrapped i p is) = node (kept_at ss t i) (from_list (picked (tree_at ss t p) is)) ∷ []

-- the trees that are lent
abbrev pub trees_in : Items → List Tree
trees_in (items.Slice ts) = map plain ts.now
trees_in (items.Picked t is) = picked (plain t.now) is.now

abbrev pub trees_of : Lent → List Tree
trees_of (lent.These ts) = trees_in ts
trees_of (lent.Wrapped h ts) = node (plain h.now) (from_list (trees_in ts)) ∷ []

-- the trees of a run that a caller sees
abbrev pub shown : Run → List Tree
shown (run.One t) = plain t.now ∷ []
shown (run.Slice ts) = map plain ts.now
shown (run.Picked t is) = picked (plain t.now) is.now
shown (run.Wrapped t is) = node (child 0 (plain t.now)) (from_list (picked (plain t.now) is.now)) ∷ []

-- two trees that are there and are one
abbrev pub both_same : Option Tree → Option Tree → Bool
both_same (Some t) (Some u) = same t u
both_same _ _ = false

abbrev pub is_headed : Tree → Option Tree → Bool
is_headed h None = false
is_headed h (Some t) = same h (head_of t)
