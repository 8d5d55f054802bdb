-- Times. Reference page of it; where a product overflows is this project's own.
use Rattle.std.specs.Prelude.{true, false, ◌&&◌, List, [], ◌∷◌, ◌++◌, Option, Some, None, Result, Ok, Err, codes}
use Rattle.std.specs.List.{list_all, list_any}
use Rattle.wl_exact.specs.Arithmetic.{checked_product, is_zero}
use Rattle.wl_exact.specs.Fraction.{Fraction}
use Rattle.wl_exact.specs.declared.num.NumFault.{NumFault}
use Rattle.wl_expr.specs.Applied.{Applied, gives}
use Rattle.wl_expr.specs.Same.{same}
use Rattle.wl_expr.specs.Tree.{Tree, num, node, to_list}
use Rattle.wl_expr.specs.Words.{form, is_the, natural}
use Rattle.wl_algebra.specs.Answers.{indeterminate_symbol, infinity, overflowed}
use Rattle.wl_algebra.specs.Joining.{joined}
use Rattle.wl_algebra.specs.Powers.{power}
use Rattle.wl_algebra.specs.Sums.{is_indeterminate, is_infinity, is_number_or_infinity, one_number}

-- the product of the numbers, in order
abbrev pub times_by : Result Fraction NumFault → Option Fraction
times_by (Ok p) = Some p
times_by (Err f) = None

abbrev pub times_number : Option Fraction → Tree → Option Fraction
times_number (Some n) (num m) = times_by (checked_product n m)
times_number p t = p

abbrev pub product_on : Option Fraction → List Tree → Option Fraction
product_on p [] = p
product_on p (t ∷ ts) = product_on (times_number p t) ts

-- the elements of one base: the first of them, and the exponents of all
pub record Group : Type 0 where
  pub base : Tree
  pub element : Tree
  pub exponents : List Tree

abbrev pub alone : Tree → Group
alone t = record { base = t; element = t; exponents = natural 1 ∷ [] }

abbrev pub node_group : Tree → List Tree → Tree → Group
node_group h (b ∷ e ∷ []) t = elim (is_the (codes "Power") h) [ true ↦ record { base = b; element = t; exponents = e ∷ [] } | false ↦ alone t ]
node_group h ts t = alone t

-- `Power[b, e]` has base b and exponent e; any other element is its own base with exponent 1
abbrev pub group_of : Tree → Group
group_of (node h ts) = node_group h (to_list ts) (node h ts)
group_of t = alone t

-- equal bases join in the first one's place, with all their exponents in order
abbrev pub with_group : Group → List Group → List Group
with_group g [] = g ∷ []
with_group g (k ∷ ks) = elim (same g.base k.base) [ true ↦ record k { exponents = k.exponents ++ g.exponents } ∷ ks | false ↦ k ∷ with_group g ks ]

-- the groups of the elements that are no numbers
abbrev pub with_factor : List Group → Tree → List Group
with_factor gs (num n) = gs
with_factor gs t = with_group (group_of t) gs

abbrev pub groups_on : List Group → List Tree → List Group
groups_on gs [] = gs
groups_on gs (t ∷ ts) = groups_on (with_factor gs t) ts

-- an element whose base stands once stays as it is; others join as `Power[b, Plus[e1, e2]]`
abbrev pub group_left_by : List Tree → Group → Tree
group_left_by (e ∷ []) g = g.element
group_left_by es g = power g.base (form (codes "Plus") es)

abbrev pub group_left : Group → Tree
group_left g = group_left_by g.exponents g

abbrev pub groups_left : List Group → List Tree
groups_left [] = []
groups_left (g ∷ gs) = group_left g ∷ groups_left gs

-- with one or more ComplexInfinity and else numbers alone; or what is left
abbrev pub product_left : Fraction → List Tree → Applied
product_left n es =
    elim (list_any is_infinity es && list_all is_number_or_infinity es) [
      | true ↦ gives infinity
      | false ↦ gives (joined (codes "Times") n one_number (groups_left (groups_on [] es)))
    ]

abbrev pub product_of_zero : List Tree → Applied
product_of_zero es = elim (list_any is_infinity es) [ true ↦ gives indeterminate_symbol | false ↦ gives (natural 0) ]

abbrev pub product_result : Option Fraction → List Tree → Applied
product_result None es = overflowed
product_result (Some n) es = elim (is_zero n) [ true ↦ product_of_zero es | false ↦ product_left n es ]

abbrev pub product_of_more : List Tree → Applied
product_of_more es = elim (list_any is_indeterminate es) [ true ↦ gives indeterminate_symbol | false ↦ product_result (product_on (Some one_number) es) es ]

-- without elements 1, with one element that element
abbrev pub times_row : List Tree → Applied
times_row [] = gives (natural 1)
times_row (t ∷ []) = gives t
times_row (t ∷ u ∷ us) = product_of_more (t ∷ u ∷ us)
