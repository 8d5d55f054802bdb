-- Apply, MapApply, Map; Total; Evaluate, ReleaseHold, Identity. Reference pages of these.
use Rattle.std.specs.Prelude.{Bool, true, false, ◌||◌, List, [], ◌∷◌, map, Option, Some, None, codes}
use Rattle.wl_expr.specs.Applied.{Applied, unchanged, gives}
use Rattle.wl_expr.specs.Tree.{Tree}
use Rattle.wl_expr.specs.Words.{applied, form, is_the, sequence_of}
use Rattle.wl_lists.specs.Nodes.{node_of, by_node, list_elements, is_level_one}

-- another head for an element that is a node
abbrev pub headed : Tree → Tree → Option (Tree × List Tree) → Tree
headed f t None = t
headed f t (Some p) = applied f p.1

abbrev pub with_head : Tree → Tree → Tree
with_head f t = headed f t (node_of t)

abbrev pub each_with_head : Tree → Tree → Applied
each_with_head f e = by_node (λ h ts. gives (applied h (map (with_head f) ts))) (node_of e)

-- `MapApply[f, e]`, on the elements that are nodes
abbrev pub map_apply_row : List Tree → Applied
map_apply_row (f ∷ e ∷ []) = each_with_head f e
map_apply_row es = unchanged

abbrev pub applied_to : Tree → Tree → Applied
applied_to f e = by_node (λ h ts. gives (applied f ts)) (node_of e)

-- `Apply[f, e]`, `Apply[f, e, {1}]`
abbrev pub apply_row : List Tree → Applied
apply_row (f ∷ e ∷ []) = applied_to f e
apply_row (f ∷ e ∷ l ∷ []) = elim (is_level_one l) [ true ↦ each_with_head f e | false ↦ unchanged ]
apply_row es = unchanged

-- `f[t]`
abbrev pub image : Tree → Tree → Tree
image f t = applied f (t ∷ [])

abbrev pub each_applied : Tree → List Tree → List Tree
each_applied f ts = map (image f) ts

abbrev pub mapped : Tree → Tree → Option (Tree × List Tree) → Applied
mapped f e None = gives e
mapped f e (Some p) = gives (applied p.0 (each_applied f p.1))

-- `Map[f, e]`, an atom e stays e
abbrev pub map_row : List Tree → Applied
map_row (f ∷ e ∷ []) = mapped f e (node_of e)
map_row es = unchanged

-- `Total[list]`: `Plus` of its elements
abbrev pub total_of : Option (List Tree) → Applied
total_of None = unchanged
total_of (Some ts) = gives (form (codes "Plus") ts)

abbrev pub total_row : List Tree → Applied
total_row (t ∷ []) = total_of (list_elements t)
total_row es = unchanged

-- `Evaluate[e]`: e; of another number of elements their Sequence
abbrev pub evaluate_row : List Tree → Applied
evaluate_row (e ∷ []) = gives e
evaluate_row es = gives (sequence_of es)

abbrev pub is_hold : Tree → Bool
is_hold h = is_the (codes "Hold") h || is_the (codes "HoldComplete") h || is_the (codes "HoldPattern") h

abbrev pub released : Tree → Option (Tree × List Tree) → Tree
released e (Some (h, t ∷ [])) = elim (is_hold h) [ true ↦ t | false ↦ e ]
released e p = e

-- `ReleaseHold[e]`: the element of Hold, HoldComplete or HoldPattern, else e
abbrev pub release_hold_row : List Tree → Applied
release_hold_row (e ∷ []) = gives (released e (node_of e))
release_hold_row es = unchanged

-- `Identity[e]`: e
abbrev pub identity_row : List Tree → Applied
identity_row (e ∷ []) = gives e
identity_row es = unchanged
