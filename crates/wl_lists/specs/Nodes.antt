-- A node as rows see it: its head and its elements.
use Rattle.std.specs.Prelude.{ℤ, pos, Bool, true, false, ◌&&◌, List, [], ◌∷◌, Option, Some, None}
use Rattle.std.specs.Ordering.{int_eq}
use Rattle.wl_expr.specs.Applied.{Applied, unchanged, gives}
use Rattle.wl_expr.specs.Tree.{Tree, node, to_list}
use Rattle.wl_expr.specs.Words.{elements, int_of, is_list}

abbrev pub node_of : Tree → Option (Tree × List Tree)
node_of (node h ts) = Some (h, to_list ts)
node_of t = None

-- f of the head and the elements; where there are none the expression stays
abbrev pub by_node : (Tree → List Tree → Applied) → Option (Tree × List Tree) → Applied
by_node f None = unchanged
by_node f (Some p) = f p.0 p.1

-- of one expression that is a node
abbrev pub of_node : (Tree → List Tree → Applied) → List Tree → Applied
of_node f (t ∷ []) = by_node f (node_of t)
of_node f es = unchanged

-- of a node and one expression more
abbrev pub of_node_and : (Tree → List Tree → Tree → Applied) → List Tree → Applied
of_node_and f (t ∷ x ∷ []) = by_node (λ h ts. f h ts x) (node_of t)
of_node_and f es = unchanged

-- an expression that is looked up, where it is there
abbrev pub given : Option Tree → Applied
given None = unchanged
given (Some t) = gives t

-- the elements of a list
abbrev pub list_elements : Tree → Option (List Tree)
list_elements t = elim (is_list t) [ true ↦ Some (elements t) | false ↦ None ]

-- whether a tree is `1`
abbrev pub is_one_int : Option ℤ → Bool
is_one_int None = false
is_one_int (Some n) = int_eq n (pos 1)

abbrev pub is_one : Tree → Bool
is_one t = is_one_int (int_of t)

abbrev pub is_only_one : List Tree → Bool
is_only_one (t ∷ []) = is_one t
is_only_one ts = false

-- whether a tree is `{1}`
abbrev pub is_level_one : Tree → Bool
is_level_one t = is_list t && is_only_one (elements t)
