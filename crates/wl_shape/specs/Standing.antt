-- What stands for names, compared.
use Rattle.std.specs.Prelude.{◌≡◌, ◌≤◌, true, List}
use Rattle.wl_expr.specs.Same.{is_name_among}
use Rattle.wl_expr.specs.Tree.{Tree, weight, depth}
use Rattle.wl_expr.specs.Words.{Name}
use Rattle.wl_shape.specs.Fill.{Values}

-- the same stands for these names
abbrev pub AgreeOn : List Name → Values → Values → Type 0
AgreeOn xs vs ws = (x : Name) → is_name_among x xs ≡ true → vs x ≡ ws x

-- t is neither heavier nor deeper than u
pub record IsNotLarger (t u : Tree) : Type 0 where
  pub light : weight t ≤ weight u
  pub shallow : depth t ≤ depth u
