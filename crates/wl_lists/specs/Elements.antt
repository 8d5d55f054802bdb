-- Rows on an expression and on the elements of a node. Reference pages of these.
use Rattle.std.specs.Prelude.{negsuc, List, [], ◌∷◌, ◌++◌, ◌-◌, length, reverse, take, slice_get}
use Rattle.std.specs.declared.cmp.Ordering.{Ordering}
use Rattle.std.specs.declared.cmp.Ordering.TheVariants.{Less, Equal, Greater}
use Rattle.wl_expr.specs.Applied.{Applied, unchanged, gives}
use Rattle.wl_expr.specs.Order.{canonical_order}
use Rattle.wl_expr.specs.Sorted.{is_sorted}
use Rattle.wl_expr.specs.Tree.{Tree, depth}
use Rattle.wl_expr.specs.Words.{applied, natural, whole, truth, elements, head_of}
use Rattle.wl_lists.specs.Nodes.{of_node, of_node_and, given}

-- ---- of one expression

abbrev pub head_row : List Tree → Applied
head_row (e ∷ []) = gives (head_of e)
head_row es = unchanged

abbrev pub length_row : List Tree → Applied
length_row (e ∷ []) = gives (natural (length (elements e)))
length_row es = unchanged

abbrev pub depth_row : List Tree → Applied
depth_row (e ∷ []) = gives (natural (depth e))
depth_row es = unchanged

-- 1, 0, -1 as a comes before, with or after b
abbrev pub order_number : Ordering → Tree
order_number Less = natural 1
order_number Equal = natural 0
order_number Greater = whole (negsuc 0)

abbrev pub order_row : List Tree → Applied
order_row (a ∷ b ∷ []) = gives (order_number (canonical_order a b))
order_row es = unchanged

-- ---- of a node

abbrev pub ordered_row : List Tree → Applied
ordered_row es = of_node (λ h ts. gives (truth (is_sorted ts))) es

abbrev pub first_row : List Tree → Applied
first_row es = of_node (λ h ts. given (slice_get ts 0)) es

abbrev pub last_row : List Tree → Applied
last_row es = of_node (λ h ts. given (slice_get ts (length ts - 1))) es

-- all but the first, where there is one
abbrev pub rest_of : Tree → List Tree → Applied
rest_of h [] = unchanged
rest_of h (t ∷ ts) = gives (applied h ts)

abbrev pub rest_row : List Tree → Applied
rest_row es = of_node rest_of es

-- all but the last, where there is one
abbrev pub most_of : Tree → List Tree → Applied
most_of h [] = unchanged
most_of h (t ∷ ts) = gives (applied h (take (length ts) (t ∷ ts)))

abbrev pub most_row : List Tree → Applied
most_row es = of_node most_of es

abbrev pub reverse_row : List Tree → Applied
reverse_row es = of_node (λ h ts. gives (applied h (reverse ts))) es

-- ---- of a node and one more

abbrev pub append_row : List Tree → Applied
append_row es = of_node_and (λ h ts x. gives (applied h (ts ++ x ∷ []))) es

abbrev pub prepend_row : List Tree → Applied
prepend_row es = of_node_and (λ h ts x. gives (applied h (x ∷ ts))) es
