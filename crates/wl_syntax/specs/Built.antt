-- What the builder's stack stands for: trees, and calls and lists whose elements are still to come.
use Rattle.std.specs.Prelude.{ℕ, ◌≡◌, ◌≤◌, ◌<◌, max, min, Option, Some, None, ◌+◌, ◌++◌, List, [], ◌∷◌, map, codes}
use Rattle.wl_expr.specs.Stamped.{Stamped, unstamped}
use Rattle.wl_expr.specs.Tree as full
use Rattle.wl_syntax.specs.declared.operator.Infix.{Infix}
use Rattle.wl_syntax.specs.declared.build.Group.{Group}
use Rattle.wl_syntax.specs.declared.build.Args.{Args}
use Rattle.wl_syntax.specs.declared.build.Item.{Item}
use Rattle.wl_syntax.specs.declared.build.Item.TheVariants as code
use Rattle.wl_syntax.specs.Chain.{form}
use Rattle.wl_syntax.specs.Depth.{depth, depths, pairs, max_depth}
use Rattle.wl_syntax.specs.Lower.{reach, items, elements, lower, nested_on}
use Rattle.wl_syntax.specs.Polish.{Node, leaf_node, list_node, paren_node, element_node, call_node, part_node, before_node, after_node, last_node, between_node}
use Rattle.wl_syntax.specs.Tree.{Tree, leaf, paren, brace, call, part, before, after, last, between, Elems, none, more}

pub data Piece : Type 0 where
  tree : Tree → Piece
  calling : Tree → Elems → Piece
  listing : Elems → Piece

-- lost: the nodes are those of no tree
pub data Pieces : Type 0 where
  pieces : List Piece → Pieces
  lost : Pieces

-- the pieces behind one more node, the last piece first
unfoldable pub build : Pieces → Node → Pieces
build lost n = lost
build (pieces s) (leaf_node a) = pieces (tree (leaf a) ∷ s)
build (pieces s) list_node = pieces (listing none ∷ s)
build (pieces (tree t ∷ s)) paren_node = pieces (tree (paren t) ∷ s)
build (pieces (tree x ∷ listing xs ∷ s)) element_node = pieces (listing (more xs x) ∷ s)
build (pieces (tree x ∷ calling f xs ∷ s)) element_node = pieces (calling f (more xs x) ∷ s)
build (pieces (tree x ∷ tree f ∷ s)) element_node = pieces (calling f (more none x) ∷ s)
build (pieces (listing xs ∷ s)) call_node = pieces (tree (brace xs) ∷ s)
build (pieces (calling f xs ∷ s)) call_node = pieces (tree (call f xs) ∷ s)
build (pieces (tree f ∷ s)) call_node = pieces (tree (call f none) ∷ s)
build (pieces (calling f (more xs t) ∷ s)) part_node = pieces (tree (part f xs t) ∷ s)
build (pieces (tree t ∷ s)) (before_node o) = pieces (tree (before o t) ∷ s)
build (pieces (tree t ∷ s)) (after_node o) = pieces (tree (after t o) ∷ s)
build (pieces (tree t ∷ s)) last_node = pieces (tree (last t) ∷ s)
build (pieces (tree r ∷ tree l ∷ s)) (between_node o) = pieces (tree (between l o r) ∷ s)
build _ n = lost

abbrev pub unstamped_all : List full.Tree → List Stamped
unstamped_all es = map unstamped es

-- a sign before each operand
abbrev pub each : Stamped → List Stamped → List Stamped
each s [] = []
each s (v ∷ vs) = s ∷ v ∷ each s vs

-- the nested pairs of operands without stamps
abbrev pub IsNest : Infix → Stamped → List Stamped → Stamped → Type 0
IsNest p a vs r = (e : full.Tree) (fs : List full.Tree) → a ≡ unstamped e → vs ≡ unstamped_all fs → r ≡ unstamped (nested_on p e fs)

-- the number is no further than a tree is deep
abbrev pub IsNear : Option ℕ → Type 0
IsNear None = Unit {0}
IsNear (Some n) = n ≤ max_depth

-- a tree that isn't too deep
pub record IsGroup (g : Group) (t : Tree) : Type 0 where
  pub has_form : g.form ≡ form t
  pub has_reach : g.reach ≡ reach t
  pub has_items : g.items.items ≡ unstamped_all (items t)
  pub has_depth : g.depth ≡ depth t
  pub has_pairs : g.pairs ≡ min (pairs t) (max_depth + 1)
  pub shallow : depth t ≤ max_depth

-- a call or a list of this head, these elements and this depth so far
pub record IsCall (a : Args) (h : full.Tree) (es : List full.Tree) (n : ℕ) : Type 0 where
  pub has_head : a.head ≡ unstamped h
  pub has_elements : a.elements.items ≡ unstamped_all es
  pub has_depth : a.depth ≡ n
  pub shallow : n ≤ max_depth

abbrev pub Is : Item → Piece → Type 0
Is (code.Whole g) (tree t) = IsGroup g t
Is code.Deep (tree t) = max_depth < depth t
Is (code.Args a) (calling f xs) = IsCall a (lower f) (elements xs) (max (depth f) (depths xs))
Is code.Deep (calling f xs) = max_depth < max (depth f) (depths xs)
Is (code.Args a) (listing xs) = IsCall a (full.symbol (codes "List")) (elements xs) (depths xs)
Is code.Deep (listing xs) = max_depth < depths xs
Is _ _ = ⊥

-- the stack, its last item last
abbrev pub AreFrom : List Item → List Piece → Type 0
AreFrom is [] = is ≡ []
AreFrom is (p ∷ ps) = (js : List Item) × (i : Item) × (is ≡ js ++ i ∷ []) × Is i p × AreFrom js ps

abbrev pub Are : List Item → Pieces → Type 0
Are is (pieces ps) = AreFrom is ps
Are is lost = Unit {0}
