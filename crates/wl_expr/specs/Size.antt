-- The size of several trees together, and when trees are no larger than others.
use Rattle.std.specs.Prelude.{ℕ, ◌≤◌, List}
use Rattle.wl_expr.specs.Tree.{Tree, from_list, weight, weights, depth, depths}

abbrev pub weight_of : List Tree → ℕ
weight_of ts = weights (from_list ts)

abbrev pub depth_of : List Tree → ℕ
depth_of ts = depths (from_list ts)

-- together no heavier than w, and none deeper than d
pub record AreNoLarger (w d : ℕ) (ts : List Tree) : Type 0 where
  pub light : weight_of ts ≤ w
  pub shallow : depth_of ts ≤ d

-- neither heavier nor deeper than another tree
pub record IsNoLarger (t u : Tree) : Type 0 where
  pub light : weight u ≤ weight t
  pub shallow : depth u ≤ depth t
