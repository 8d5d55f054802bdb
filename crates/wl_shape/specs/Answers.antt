-- What contracts see of the answers: plain trees, faults, and stamps that are handed on.
use Rattle.std.specs.Prelude.{◌≡◌, List, map, Result, Err, IfOk}
use Rattle.std.specs.List.{All}
use Rattle.wl_expr.specs.Passed.{IsFrom}
use Rattle.wl_expr.specs.Stamped.{Stamped, plain}
use Rattle.wl_expr.specs.Tree.{Tree, IsWithinLimits}
use Rattle.wl_expr.specs.declared.fault.ExprFault.{ExprFault}
use Rattle.wl_expr.specs.declared.fault.ExprFault.TheVariants.{Large}
use Rattle.wl_shape.specs.Shape.{Shaped, rebuilt, threaded, uneven, shaped_tree}
use Rattle.wl_shape.specs.declared.arrangement.Shaped as code
use Rattle.wl_shape.specs.declared.arrangement.Shaped.TheVariants as variant

abbrev pub trees : List Stamped → List Tree
trees ts = map plain ts

abbrev pub AllFrom : List Stamped → List Stamped → Type 0
AllFrom ms ts = All (IsFrom ms) ts

abbrev pub plain_shaped : code.Shaped → Shaped
plain_shaped (variant.Node e) = rebuilt (plain e)
plain_shaped (variant.Threaded e) = threaded (plain e)
plain_shaped (variant.Uneven e) = uneven (plain e)

abbrev pub ShapedIsFrom : List Stamped → code.Shaped → Type 0
ShapedIsFrom ms (variant.Node e) = IsFrom ms e
ShapedIsFrom ms (variant.Threaded e) = IsFrom ms e
ShapedIsFrom ms (variant.Uneven e) = IsFrom ms e

-- the expression is this tree, and Large comes only where that doesn't fit
pub record IsMade (t : Tree) (r : Result Stamped ExprFault) : Type 0 where
  pub tree : IfOk r (λ e. plain e ≡ t)
  pub large : r ≡ Err Large → ¬ IsWithinLimits t

-- the expression is this tree, which fits; and Large comes only where it doesn't
pub record IsFilled (t : Tree) (r : Result Stamped ExprFault) : Type 0 where
  pub is : IfOk r (λ e. (plain e ≡ t) × IsWithinLimits t)
  pub large : r ≡ Err Large → ¬ IsWithinLimits t

-- the answer is this shape, whose tree fits; and Large comes only where it doesn't
abbrev pub ShapeFits : Shaped → code.Shaped → Type 0
ShapeFits s v = (plain_shaped v ≡ s) × IsWithinLimits (shaped_tree s)

pub record IsShaped (s : Shaped) (r : Result code.Shaped ExprFault) : Type 0 where
  pub is : IfOk r (ShapeFits s)
  pub large : r ≡ Err Large → ¬ IsWithinLimits (shaped_tree s)
