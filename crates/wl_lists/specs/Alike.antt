-- Expressions that are one tree, stamps apart: what tells the keys of a set apart.
use Rattle.std.specs.Prelude.{Bool}
use Rattle.wl_expr.specs.Same.{same}
use Rattle.wl_expr.specs.Stamped.{Stamped, plain}

abbrev pub alike : Stamped → Stamped → Bool
alike a b = same (plain a) (plain b)
