-- The elements of a node under its head's attributes: which are evaluated, and what Unevaluated leaves. Tutorial on the standard evaluation procedure.
use Rattle.std.specs.Prelude.{Bool, true, false, ◌&&◌, ◌||◌, not, List, [], ◌∷◌, ◌++◌, map, codes}
use Rattle.std.specs.List.{list_any}
use Rattle.wl_expr.specs.Tree.{Tree, node, none, more}
use Rattle.wl_expr.specs.Words.{is_the, is_form}
use Rattle.wl_rules.specs.Attributes.{AttributeSet}
use Rattle.wl_semantics.specs.Prog.{Prog, done, ◌>>=◌, value_of}

-- whether HoldFirst, HoldRest or HoldAll holds the element behind these
abbrev pub is_held : AttributeSet → List Tree → Bool
is_held a [] = a.hold_first || a.hold_all
is_held a (v ∷ vs) = a.hold_rest || a.hold_all

-- `Evaluate[..]` overrides what holds an element
abbrev pub stays_held : AttributeSet → List Tree → Tree → Bool
stays_held a vs e = is_held a vs && not (is_form (codes "Evaluate") e)

abbrev pub element : AttributeSet → List Tree → Tree → Prog Tree
element a vs e = elim (stays_held a vs e) [ true ↦ done e | false ↦ value_of e ]

-- one element after the other, behind those that stand already
unfoldable pub evaluated_on : AttributeSet → List Tree → List Tree → Prog (List Tree)
evaluated_on a vs [] = done vs
evaluated_on a vs (e ∷ es) = do
  v ← element a vs e
  evaluated_on a (vs ++ v ∷ []) es

-- HoldAllComplete keeps all elements as they are, `Evaluate[..]` too
abbrev pub evaluated : AttributeSet → List Tree → Prog (List Tree)
evaluated a es = elim a.hold_all_complete [ true ↦ done es | false ↦ evaluated_on a [] es ]

-- ---- Unevaluated

abbrev pub bare : Tree → Tree
bare (node h (more e none)) = elim (is_the (codes "Unevaluated") h) [ true ↦ e | false ↦ node h (more e none) ]
bare t = t

abbrev pub is_unevaluated : Tree → Bool
is_unevaluated (node h (more e none)) = is_the (codes "Unevaluated") h
is_unevaluated t = false

-- in place of an element `Unevaluated[e]` stands e, but under HoldAllComplete
abbrev pub bared : AttributeSet → List Tree → List Tree
bared a es = elim a.hold_all_complete [ true ↦ es | false ↦ map bare es ]

-- whether there is such an element
abbrev pub is_bared : AttributeSet → List Tree → Bool
is_bared a es = not a.hold_all_complete && list_any is_unevaluated es
