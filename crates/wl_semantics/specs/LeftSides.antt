-- Left sides of definitions: their core put back, the condition that moves there from a right side, and the two limits. Tutorials on definitions and on patterns.
use Rattle.std.specs.Prelude.{Bool, true, false, List, [], ◌∷◌, is_some, unwrap_or, codes}
use Rattle.wl_assign.specs.Core.{is_around}
use Rattle.wl_assign.specs.Limits as limits
use Rattle.wl_expr.specs.Special.{Special, condition, special_node}
use Rattle.wl_expr.specs.Tree.{Tree, node, more, to_list}
use Rattle.wl_expr.specs.Words.{Name, form, null_symbol}

-- the left side with another core within its conditions and `HoldPattern`
abbrev pub with_core : Tree → Tree → Tree
with_core (node h (more l ts)) c = elim (is_around (special_node h (to_list (more l ts)))) [ true ↦ node h (more (with_core l c) ts) | false ↦ c ]
with_core t c = c

-- a left side, and the body that is stored with it
pub record Sides : Type 0 where
  pub left : Tree
  pub body : Tree

-- a condition of the right side, `l := r /; c`, becomes one of the left side, and that once
abbrev pub moved : Tree → Tree → Special → List Tree → Sides
moved l v condition (r ∷ c ∷ []) = record { left = form (codes "Condition") (l ∷ c ∷ []); body = r }
moved l v _ ts = record { left = l; body = v }

abbrev pub moved_condition : Tree → Tree → Sides
moved_condition l (node h ts) = moved l (node h ts) (special_node h (to_list ts)) (to_list ts)
moved_condition l v = record { left = l; body = v }

-- ---- the two limits

abbrev pub recursion_limit : Name
recursion_limit = codes "$RecursionLimit"

abbrev pub iteration_limit : Name
iteration_limit = codes "$IterationLimit"

-- which names are limits doesn't depend on the value
abbrev pub is_limit : Name → Bool
is_limit x = is_some (limits.limit_allows x null_symbol)

-- whether a limit may have this value
abbrev pub limit_allows : Name → Tree → Bool
limit_allows x v = unwrap_or (limits.limit_allows x v) false
