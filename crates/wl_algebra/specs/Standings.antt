-- What elements come to that are taken one after the other, for Max and Min.
use Rattle.std.specs.Prelude.{List, [], ◌∷◌}
use Rattle.wl_exact.specs.Fraction.{Fraction}
use Rattle.wl_expr.specs.Applied.{Applied, unchanged, gives}
use Rattle.wl_expr.specs.Tree.{Tree, num}
use Rattle.wl_algebra.specs.Extremes.{greater_of, lesser_of}
use Rattle.wl_algebra.specs.declared.extremes.Best.{Best}
use Rattle.wl_algebra.specs.declared.extremes.Best.TheVariants.{Nothing, Number, Other}
use Rattle.wl_algebra.specs.declared.extremes.Extreme.{Extreme}
use Rattle.wl_algebra.specs.declared.extremes.Extreme.TheVariants.{Greatest, Least}

abbrev pub better_by : Extreme → Fraction → Fraction → Fraction
better_by Greatest = greater_of
better_by Least = lesser_of

-- one tree more
abbrev pub with_tree : (Fraction → Fraction → Fraction) → Best → Tree → Best
with_tree f Nothing (num n) = Number n
with_tree f (Number m) (num n) = Number (f m n)
with_tree f b t = Other

abbrev pub with_trees : (Fraction → Fraction → Fraction) → Best → List Tree → Best
with_trees f b [] = b
with_trees f b (t ∷ ts) = with_trees f (with_tree f b t) ts

abbrev pub answer_of : Best → Applied
answer_of (Number n) = gives (num n)
answer_of b = unchanged
