-- Taking Unevaluated away makes no element larger; so a rebuilt form is within the limits where the first form is.
use Rattle.std.proofs.Common.{◌≤◌, Bool, true, false, List, [], ◌∷◌, map, arith}
use Rattle.std.specs.Prelude.{codes}
use Rattle.wl_expr.specs.Tree.{Tree, num, text, symbol, node, none, more, weight, depth}
use Rattle.wl_expr.specs.Words.{is_the}
use Rattle.wl_rules.specs.Attributes.{AttributeSet}
use Rattle.wl_shape.specs.Sizes.{weight_of, depth_of, NoLarger}
use Rattle.wl_semantics.specs.Elements.{bare, bared}

bare-size : (t : Tree) → (weight (bare t) ≤ weight t) × (depth (bare t) ≤ depth t)
bare-size (num n) = (omega arith, omega arith)
bare-size (text s) = (omega arith, omega arith)
bare-size (symbol x) = (omega arith, omega arith)
bare-size (node h none) = (omega arith, omega arith)
bare-size (node h (more e none)) = go (is_the (codes "Unevaluated") h)
  where
    go : (b : Bool) → (weight (elim b [ true ↦ e | false ↦ node h (more e none) ]) ≤ weight (node h (more e none))) × (depth (elim b [ true ↦ e | false ↦ node h (more e none) ]) ≤ depth (node h (more e none)))
    go true = (omega arith, omega arith)
    go false = (omega arith, omega arith)
bare-size (node h (more e (more f fs))) = (omega arith, omega arith)

map-size : (es : List Tree) → NoLarger (weight_of es) (depth_of es) (map bare es)
map-size [] = record { light = omega arith; shallow = omega arith }
map-size (t ∷ ts) =
    let a = bare-size t in
    let b = map-size ts in
    record { light = omega (arith, a.0, b.light); shallow = omega (arith, a.1, b.shallow) }

pub bared-size : (a : AttributeSet) (es : List Tree) → NoLarger (weight_of es) (depth_of es) (bared a es)
bared-size a es = go a.hold_all_complete
  where
    go : (b : Bool) → NoLarger (weight_of es) (depth_of es) (elim b [ true ↦ es | false ↦ map bare es ])
    go true = record { light = omega arith; shallow = omega arith }
    go false = map-size es
