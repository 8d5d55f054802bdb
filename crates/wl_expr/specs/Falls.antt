-- Each part is less deep than the whole.
use Rattle.std.specs.Prelude.{◌+◌, ◌≤◌, max, List, [], ◌∷◌, Option}
use Rattle.std.proofs.Common.{arith}
use denote.Param.Weighed.{most}
use Rattle.wl_expr.specs.Tree.{depths}
use Rattle.wl_expr.specs.Stamped.{Stamped, from_list, plains, depth}
use Rattle.wl_expr.specs.View.{shaped}
use Rattle.wl_expr.specs.declared.stamp.Stamp.{Stamp}
use Rattle.wl_expr.specs.declared.expr.Shape.{Shape}
use Rattle.wl_expr.specs.declared.expr.Shape.TheVariants.{Number, Text, Symbol, Node}
use Rattle.wl_expr.specs.declared.expr.Expr.TheDeep.{deep-Shape}

pub most_le-depths : (ts : List Stamped) → most (λ t. depth t + 1) ts ≤ depths (plains (from_list ts)) + 1
most_le-depths [] = omega arith
most_le-depths (t ∷ ts) = omega (arith, most_le-depths ts)

pub shape_falls : (p : Option Stamp) (s : Shape) → max (max (deep-Shape s) 0) 0 ≤ depth (shaped p s)
shape_falls p (Number n) = omega arith
shape_falls p (Text s) = omega arith
shape_falls p (Symbol s) = omega arith
shape_falls p (Node h ts) = omega (arith, most_le-depths ts.items)
