-- Sort, Join, Union, DeleteDuplicates. Reference pages of these.
use Rattle.std.specs.Prelude.{Bool, true, false, List, [], ◌∷◌}
use Rattle.std.specs.List.{flat_map, list_all}
use Rattle.wl_expr.specs.Applied.{Applied, unchanged, gives}
use Rattle.wl_expr.specs.Same.{same, first_of_each}
use Rattle.wl_expr.specs.Sorted.{sorted}
use Rattle.wl_expr.specs.Tree.{Tree, node}
use Rattle.wl_expr.specs.Words.{applied, elements, is_list, list_of}
use Rattle.wl_lists.specs.Nodes.{node_of, by_node, of_node}

abbrev pub sort_row : List Tree → Applied
sort_row es = of_node (λ h ts. gives (applied h (sorted ts))) es

-- the first of each stays
abbrev pub delete_duplicates_row : List Tree → Applied
delete_duplicates_row es = of_node (λ h ts. gives (applied h (first_of_each [] ts))) es

-- whether a tree is a node with this head
abbrev pub has_head : Tree → Tree → Bool
has_head h (node k ts) = same h k
has_head h t = false

abbrev pub elements_of_all : List Tree → List Tree
elements_of_all ts = flat_map elements ts

abbrev pub joined : Tree → List Tree → Applied
joined h ts = elim (list_all (has_head h) ts) [ true ↦ gives (applied h (elements_of_all ts)) | false ↦ unchanged ]

-- `Join` of nodes with one head
abbrev pub join_row : List Tree → Applied
join_row [] = unchanged
join_row (t ∷ ts) = by_node (λ h us. joined h (t ∷ ts)) (node_of t)

-- `Union` of lists: sorted, without repeats
abbrev pub union_row : List Tree → Applied
union_row [] = unchanged
union_row (t ∷ ts) = elim (list_all is_list (t ∷ ts)) [ true ↦ gives (list_of (sorted (first_of_each [] (elements_of_all (t ∷ ts))))) | false ↦ unchanged ]
