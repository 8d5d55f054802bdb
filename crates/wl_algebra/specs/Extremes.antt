-- Max, Min of one or more numbers, lists spliced at all depths. Reference pages of these.
use Rattle.std.specs.Prelude.{Bool, true, false, List, [], ◌∷◌}
use Rattle.std.specs.declared.cmp.Ordering.{Ordering}
use Rattle.std.specs.declared.cmp.Ordering.TheVariants.{Less, Equal, Greater}
use Rattle.wl_exact.specs.Arithmetic.{fraction_cmp}
use Rattle.wl_exact.specs.Fraction.{Fraction}
use Rattle.wl_expr.specs.Applied.{Applied, unchanged, gives}
use Rattle.wl_expr.specs.Tree.{Tree, num}
use Rattle.wl_algebra.specs.Spliced.{spliced_lists}

abbrev pub is_less : Ordering → Bool
is_less Less = true
is_less Equal = false
is_less Greater = false

abbrev pub greater_of : Fraction → Fraction → Fraction
greater_of a b = elim (is_less (fraction_cmp a b)) [ true ↦ b | false ↦ a ]

abbrev pub lesser_of : Fraction → Fraction → Fraction
lesser_of a b = elim (is_less (fraction_cmp b a)) [ true ↦ b | false ↦ a ]

abbrev pub best_on : (Fraction → Fraction → Fraction) → Fraction → List Tree → Applied
best_on f n [] = gives (num n)
best_on f n (num m ∷ ts) = best_on f (f n m) ts
best_on f n (t ∷ ts) = unchanged

abbrev pub best_of : (Fraction → Fraction → Fraction) → List Tree → Applied
best_of f (num n ∷ ts) = best_on f n ts
best_of f ts = unchanged

abbrev pub best_of_spliced : (Fraction → Fraction → Fraction) → List Tree → Applied
best_of_spliced f es = best_of f (spliced_lists es)

abbrev pub max_row : List Tree → Applied
max_row es = best_of_spliced greater_of es

abbrev pub min_row : List Tree → Applied
min_row es = best_of_spliced lesser_of es
