-- An element by what it has inside.
use Rattle.std.specs.Prelude.{Bool, true, false, List, Option, Some, None}
use Rattle.wl_expr.specs.Same.{same}
use Rattle.wl_expr.specs.Tree.{Tree, symbol, node}
use Rattle.wl_expr.specs.Words.{elements, is_list}

-- the elements of a list
abbrev pub list_elements : Tree → Option (List Tree)
list_elements t = elim (is_list t) [ true ↦ Some (elements t) | false ↦ None ]

-- whether a tree is a symbol
abbrev pub is_name : Tree → Bool
is_name (symbol x) = true
is_name t = false

-- whether a tree is a node with this head
abbrev pub has_head : Tree → Tree → Bool
has_head h (node k ts) = same h k
has_head h t = false

-- the elements of a node with this head
abbrev pub inner : Tree → Tree → Option (List Tree)
inner h t = elim (has_head h t) [ true ↦ Some (elements t) | false ↦ None ]
