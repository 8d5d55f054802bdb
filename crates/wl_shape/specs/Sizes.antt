-- The size of what is shaped and of what is filled.
use Rattle.std.specs.Prelude.{ℕ, ◌≤◌, List}
use Rattle.wl_expr.specs.Tree.{Tree, from_list, weight, weights, depth, depths}
use Rattle.wl_expr.specs.Words.{Name, applied}
use Rattle.wl_rules.specs.Attributes.{AttributeSet}
use Rattle.wl_shape.specs.Shape.{Shaped, rebuilt, threaded, uneven, shape}
use Rattle.wl_shape.specs.Fill.{Values, filled_symbol, fill}

abbrev pub weight_of : List Tree → ℕ
weight_of ts = weights (from_list ts)

abbrev pub depth_of : List Tree → ℕ
depth_of ts = depths (from_list ts)

-- no heavier and no deeper
pub record NoLarger (w d : ℕ) (ts : List Tree) : Type 0 where
  pub light : weight_of ts ≤ w
  pub shallow : depth_of ts ≤ d

-- of a threaded list nothing is said: it is a tested tree
abbrev pub IsNoLarger : ℕ → ℕ → Shaped → Type 0
IsNoLarger w d (rebuilt t) = (weight t ≤ w) × (depth t ≤ d)
IsNoLarger w d (uneven t) = (weight t ≤ w) × (depth t ≤ d)
IsNoLarger w d (threaded t) = Unit {0}

-- a rebuilt form is neither heavier nor deeper than the node that was shaped
abbrev pub ShapeIsNoLarger : Type 0
ShapeIsNoLarger = (a : AttributeSet) (h : Tree) (es : List Tree) → IsNoLarger (weight (applied h es)) (depth (applied h es)) (shape a h es)

-- each value has depth 1
abbrev pub AreLeaves : Values → Type 0
AreLeaves vs = (x : Name) → depth (filled_symbol x (vs x)) ≤ 1

-- filling with leaves makes no tree deeper
abbrev pub FillIsNoDeeper : Type 0
FillIsNoDeeper = (t : Tree) (vs : Values) → AreLeaves vs → depth (fill vs t) ≤ depth t
