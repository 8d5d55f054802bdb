-- What is left of a sum or a product: a number, and other elements.
use Rattle.std.specs.Prelude.{true, false, List, [], ◌∷◌}
use Rattle.wl_exact.specs.Fraction.{Fraction}
use Rattle.wl_expr.specs.Same.{same_number}
use Rattle.wl_expr.specs.Tree.{Tree, num}
use Rattle.wl_expr.specs.Words.{Name, form}

-- an only element that is left is the result by itself
abbrev pub alone_or : Name → List Tree → Tree
alone_or h (t ∷ []) = t
alone_or h ts = form h ts

-- the number stands first unless it is neutral and something else is left
abbrev pub joined : Name → Fraction → Fraction → List Tree → Tree
joined h n neutral [] = num n
joined h n neutral (t ∷ ts) = elim (same_number n neutral) [ true ↦ alone_or h (t ∷ ts) | false ↦ form h (num n ∷ t ∷ ts) ]
