-- Plus. Reference page of it; where a sum overflows is this project's own.
use Rattle.std.specs.Prelude.{ℕ, suc, pos, Bool, true, false, ◌&&◌, ◌||◌, nat_le, nat_eq, List, [], ◌∷◌, Option, Some, None, Ok, Err, codes}
use Rattle.std.specs.List.{list_all, list_any}
use Rattle.wl_exact.specs.Arithmetic.{checked_sum, is_zero}
use Rattle.wl_exact.specs.Fraction.{Fraction, of_int}
use Rattle.wl_expr.specs.Applied.{Applied, gives}
use Rattle.wl_expr.specs.Same.{same, same_number}
use Rattle.wl_expr.specs.Tree.{Tree, num, node, to_list}
use Rattle.wl_expr.specs.Words.{form, is_the, is_number, natural}
use Rattle.wl_algebra.specs.Answers.{indeterminate_symbol, infinity, overflowed}
use Rattle.wl_algebra.specs.Joining.{joined}

abbrev pub zero_number : Fraction
zero_number = of_int (pos 0)

abbrev pub one_number : Fraction
one_number = of_int (pos 1)

abbrev pub is_indeterminate : Tree → Bool
is_indeterminate t = is_the (codes "Indeterminate") t

abbrev pub is_infinity : Tree → Bool
is_infinity t = is_the (codes "ComplexInfinity") t

abbrev pub infinities : List Tree → ℕ
infinities [] = 0
infinities (t ∷ ts) = elim (is_infinity t) [ true ↦ suc (infinities ts) | false ↦ infinities ts ]

abbrev pub is_number_or_infinity : Tree → Bool
is_number_or_infinity t = is_number t || is_infinity t

-- ---- coefficients and rests

pub record Term : Type 0 where
  pub coefficient : Fraction
  pub rest : Tree

abbrev pub alone : Tree → Term
alone t = record { coefficient = one_number; rest = t }

-- the elements of a Times, behind the number that is first
abbrev pub product_term : Tree → List Tree → Tree → Term
product_term (num c) (r ∷ []) t = record { coefficient = c; rest = r }
product_term (num c) (r ∷ s ∷ rs) t = record { coefficient = c; rest = form (codes "Times") (r ∷ s ∷ rs) }
product_term _ _ t = alone t

abbrev pub node_term : Tree → List Tree → Tree → Term
node_term h (c ∷ ts) t = elim (is_the (codes "Times") h) [ true ↦ product_term c ts t | false ↦ alone t ]
node_term h [] t = alone t

-- A Times of two or more elements with a number first has that number as coefficient; its rest is the Times of its other elements, or the only other element by itself. Any other element has the coefficient 1 and is its own rest.
abbrev pub term_of : Tree → Term
term_of (node h ts) = node_term h (to_list ts) (node h ts)
term_of t = alone t

-- what is collected: the sum of the numbers, and the rests in the first one's place
pub record Sum : Type 0 where
  pub total : Fraction
  pub terms : List Term

abbrev pub with_term : Term → Option (List Term) → Option (List Term)
with_term t None = None
with_term t (Some ts) = Some (t ∷ ts)

abbrev pub added : Fraction → Term → List Term → Option (List Term)
added c t ts = elim (checked_sum t.coefficient c) [ Ok d ↦ Some (record t { coefficient = d } ∷ ts) | Err f ↦ None ]

-- equal rests join, coefficients added in order
abbrev pub joined_term : Term → List Term → Option (List Term)
joined_term t [] = Some (t ∷ [])
joined_term t (u ∷ us) = elim (same t.rest u.rest) [ true ↦ added t.coefficient u us | false ↦ with_term u (joined_term t us) ]

abbrev pub with_terms : Sum → Option (List Term) → Option Sum
with_terms s None = None
with_terms s (Some ts) = Some (record s { terms = ts })

abbrev pub with_total : Sum → Fraction → Option Sum
with_total s n = elim (checked_sum s.total n) [ Ok m ↦ Some (record s { total = m }) | Err f ↦ None ]

abbrev pub with_element : Sum → Tree → Option Sum
with_element s (num n) = with_total s n
with_element s t = with_terms s (joined_term (term_of t) s.terms)

abbrev pub collected : Option Sum → List Tree → Option Sum
collected s [] = s
collected None (t ∷ ts) = None
collected (Some s) (t ∷ ts) = collected (with_element s t) ts

-- ---- what is left

abbrev pub times_of : Fraction → Tree → Tree
times_of c (node h ts) = elim (is_the (codes "Times") h) [ true ↦ form (codes "Times") (num c ∷ to_list ts) | false ↦ form (codes "Times") (num c ∷ node h ts ∷ []) ]
times_of c r = form (codes "Times") (num c ∷ r ∷ [])

-- a rest with coefficient 1 stands as itself
abbrev pub term_left : Term → Tree
term_left t = elim (same_number t.coefficient one_number) [ true ↦ t.rest | false ↦ times_of t.coefficient t.rest ]

-- those with 0 vanish
abbrev pub terms_left : List Term → List Tree
terms_left [] = []
terms_left (t ∷ ts) = elim (is_zero t.coefficient) [ true ↦ terms_left ts | false ↦ term_left t ∷ terms_left ts ]

abbrev pub sum_result : Option Sum → Applied
sum_result None = overflowed
sum_result (Some s) = gives (joined (codes "Plus") s.total zero_number (terms_left s.terms))

abbrev pub no_sum : Sum
no_sum = record { total = zero_number; terms = [] }

abbrev pub sum_of_finite : List Tree → Applied
sum_of_finite es = elim (nat_eq (infinities es) 1 && list_all is_number_or_infinity es) [ true ↦ gives infinity | false ↦ sum_result (collected (Some no_sum) es) ]

abbrev pub sum_of_more : List Tree → Applied
sum_of_more es = elim (list_any is_indeterminate es || nat_le 2 (infinities es)) [ true ↦ gives indeterminate_symbol | false ↦ sum_of_finite es ]

-- without elements 0, with one element that element
abbrev pub plus_row : List Tree → Applied
plus_row [] = gives (natural 0)
plus_row (t ∷ []) = gives t
plus_row (t ∷ u ∷ us) = sum_of_more (t ∷ u ∷ us)
