-- Power. Reference page of it; where a power overflows is this project's own.
use Rattle.std.specs.Prelude.{ℕ, ℤ, true, false, ◌&&◌, Bool, List, [], ◌∷◌, Option, Some, None, codes}
use Rattle.std.specs.Int.{is_negative}
use Rattle.wl_exact.specs.Arithmetic.{checked_power, is_zero}
use Rattle.wl_expr.specs.Applied.{Applied, infinite, indeterminate, unchanged, gives, noticed}
use Rattle.wl_expr.specs.Same.{same}
use Rattle.wl_expr.specs.Tree.{Tree, num, node, to_list}
use Rattle.wl_expr.specs.Words.{form, is_the, natural, whole, int_of}
use Rattle.wl_algebra.specs.Answers.{indeterminate_symbol, infinity}
use Rattle.wl_algebra.specs.Numbers.{exact}

abbrev pub power : Tree → Tree → Tree
power b e = form (codes "Power") (b ∷ e ∷ [])

-- of an integer exponent: a power of a power, and the powers of the factors
abbrev pub power_of_power : Tree → Tree → Tree → Tree
power_of_power c d n = power c (form (codes "Times") (d ∷ n ∷ []))

abbrev pub powers : Tree → List Tree → List Tree
powers n [] = []
powers n (t ∷ ts) = power t n ∷ powers n ts

abbrev pub power_of_product : List Tree → Tree → Tree
power_of_product ts n = form (codes "Times") (powers n ts)

abbrev pub product_power : Tree → List Tree → Tree → Applied
product_power h ts n = elim (is_the (codes "Times") h) [ true ↦ gives (power_of_product ts n) | false ↦ unchanged ]

abbrev pub node_power : Tree → List Tree → Tree → Applied
node_power h (c ∷ d ∷ []) n = elim (is_the (codes "Power") h) [ true ↦ gives (power_of_power c d n) | false ↦ product_power h (c ∷ d ∷ []) n ]
node_power h ts n = product_power h ts n

abbrev pub integer_power : Tree → ℤ → Applied
integer_power (num b) n = elim (is_zero b && is_negative n) [ true ↦ noticed (infinite (power (num b) (whole n))) infinity | false ↦ exact (checked_power b n) ]
integer_power (node h ts) n = node_power h (to_list ts) (whole n)
integer_power b n = unchanged

abbrev pub other_power : Tree → Option ℤ → Applied
other_power b None = unchanged
other_power b (Some n) = integer_power b n

abbrev pub is_natural : ℕ → Tree → Bool
is_natural n t = same t (natural n)

-- the first that holds
abbrev pub power_of : Tree → Tree → Applied
power_of b e =
    elim (is_natural 0 b && is_natural 0 e) [
      | true ↦ noticed (indeterminate (power b e)) indeterminate_symbol
      | false ↦ elim (is_natural 0 e) [
        | true ↦ gives (natural 1)
        | false ↦ elim (is_natural 1 e) [
          | true ↦ gives b
          | false ↦ elim (is_natural 1 b) [ true ↦ gives (natural 1) | false ↦ other_power b (int_of e) ]
        ]
      ]
    ]

abbrev pub power_row : List Tree → Applied
power_row (b ∷ e ∷ []) = power_of b e
power_row es = unchanged
