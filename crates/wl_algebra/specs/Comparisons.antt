-- Equal and its relatives, Less and its relatives, SameQ, UnsameQ, Not. Reference pages of these.
use Rattle.std.specs.Prelude.{Bool, true, false, ◌&&◌, ◌||◌, not, List, [], ◌∷◌, ◌++◌, Option, Some, None, codes, bytes_eq}
use Rattle.std.specs.declared.cmp.Ordering.{Ordering}
use Rattle.std.specs.declared.cmp.Ordering.TheVariants.{Less, Equal, Greater}
use Rattle.wl_exact.specs.Fraction.{Fraction}
use Rattle.wl_exact.specs.Arithmetic.{fraction_cmp}
use Rattle.wl_expr.specs.Tree.{Tree, Trees, num, text, symbol, node, none, more}
use Rattle.wl_expr.specs.Same.{same, same_number, is_among}
use Rattle.wl_expr.specs.Words.{Name, is_the, truth, is_true, is_false, true_symbol, false_symbol}
use Rattle.wl_expr.specs.Applied.{Applied, unchanged, gives}

-- whether a test holds of all neighbours, or of some
abbrev pub all_neighbours : (Tree → Tree → Bool) → List Tree → Bool
all_neighbours f [] = true
all_neighbours f (t ∷ []) = true
all_neighbours f (t ∷ u ∷ us) = f t u && all_neighbours f (u ∷ us)

abbrev pub some_neighbours : (Tree → Tree → Bool) → List Tree → Bool
some_neighbours f [] = false
some_neighbours f (t ∷ []) = false
some_neighbours f (t ∷ u ∷ us) = f t u || some_neighbours f (u ∷ us)

-- ---- Equal, Unequal

-- Two expressions are apart where both are numbers or strings and they aren't identical, or both are lists of different lengths or with some corresponding elements apart.
abbrev mutual
  pub are_apart : Tree → Tree → Bool
  are_apart (num n) (num m) = not (same_number n m)
  are_apart (num n) (text s) = true
  are_apart (text s) (num n) = true
  are_apart (text s) (text t) = not (bytes_eq s t)
  are_apart (node h ts) (node k us) = is_the (codes "List") h && is_the (codes "List") k && some_apart ts us
  are_apart _ _ = false

  -- lists of different lengths are
  pub some_apart : Trees → Trees → Bool
  some_apart none none = false
  some_apart none (more u us) = true
  some_apart (more t ts) none = true
  some_apart (more t ts) (more u us) = are_apart t u || some_apart ts us

abbrev pub equal_row : List Tree → Applied
equal_row es =
    elim (all_neighbours same es) [
      | true ↦ gives true_symbol
      | false ↦ elim (some_neighbours are_apart es) [ true ↦ gives false_symbol | false ↦ unchanged ]
    ]

abbrev pub unequal_row : List Tree → Applied
unequal_row (a ∷ b ∷ []) =
    elim (same a b) [
      | true ↦ gives false_symbol
      | false ↦ elim (are_apart a b) [ true ↦ gives true_symbol | false ↦ unchanged ]
    ]
unequal_row es = unchanged

-- ---- of numbers alone

abbrev pub Relation : Type 0
Relation = Ordering → Bool

abbrev pub less : Relation
less Less = true
less Equal = false
less Greater = false

abbrev pub less_equal : Relation
less_equal Less = true
less_equal Equal = true
less_equal Greater = false

abbrev pub greater : Relation
greater Less = false
greater Equal = false
greater Greater = true

abbrev pub greater_equal : Relation
greater_equal Less = false
greater_equal Equal = true
greater_equal Greater = true

abbrev pub equal : Relation
equal Less = false
equal Equal = true
equal Greater = false

abbrev pub unequal : Relation
unequal Less = true
unequal Equal = false
unequal Greater = true

-- the numbers, where all are numbers
abbrev pub with_number : Tree → Option (List Fraction) → Option (List Fraction)
with_number (num n) (Some ns) = Some (n ∷ ns)
with_number _ _ = None

abbrev pub numbers : List Tree → Option (List Fraction)
numbers [] = Some []
numbers (t ∷ ts) = with_number t (numbers ts)

abbrev pub holds_of_all : Relation → List Fraction → Bool
holds_of_all r [] = true
holds_of_all r (n ∷ []) = true
holds_of_all r (n ∷ m ∷ ms) = r (fraction_cmp n m) && holds_of_all r (m ∷ ms)

abbrev pub compared : Relation → Option (List Fraction) → Applied
compared r None = unchanged
compared r (Some ns) = gives (truth (holds_of_all r ns))

abbrev pub comparison_row : Relation → List Tree → Applied
comparison_row r es = compared r (numbers es)

-- ---- Inequality, with numbers as operands: whether all hold

abbrev pub relation_among : Name → List (Name × Relation) → Option Relation
relation_among x [] = None
relation_among x (p ∷ ps) = elim (bytes_eq x p.0) [ true ↦ Some p.1 | false ↦ relation_among x ps ]

abbrev pub relations : List (Name × Relation)
relations =
    (codes "Less", less) ∷ (codes "LessEqual", less_equal) ∷ (codes "Greater", greater) ∷ (codes "GreaterEqual", greater_equal)
    ∷ (codes "Equal", equal) ∷ (codes "Unequal", unequal) ∷ []

abbrev pub relation_of : Tree → Option Relation
relation_of (symbol x) = relation_among x relations
relation_of t = None

abbrev pub and_then : Option Relation → Fraction → Fraction → Option Bool → Option Bool
and_then (Some r) n m (Some b) = Some (r (fraction_cmp n m) && b)
and_then _ n m _ = None

-- an operand, and then signs and operands in turn; none where it is another form
abbrev pub chain : Fraction → List Tree → Option Bool
chain n [] = Some true
chain n (r ∷ []) = None
chain n (r ∷ num m ∷ ts) = and_then (relation_of r) n m (chain m ts)
chain n (r ∷ t ∷ ts) = None

abbrev pub told_truth : Option Bool → Applied
told_truth None = unchanged
told_truth (Some b) = gives (truth b)

abbrev pub inequality_row : List Tree → Applied
inequality_row (num n ∷ r ∷ ts) = told_truth (chain n (r ∷ ts))
inequality_row es = unchanged

-- ---- SameQ, UnsameQ, Not

-- whether no two are identical: each differs from those before it
abbrev pub all_new : List Tree → List Tree → Bool
all_new met [] = true
all_new met (t ∷ ts) = not (is_among t met) && all_new (met ++ t ∷ []) ts

abbrev pub all_differ : List Tree → Bool
all_differ es = all_new [] es

abbrev pub same_row : List Tree → Applied
same_row es = gives (truth (all_neighbours same es))

abbrev pub unsame_row : List Tree → Applied
unsame_row es = gives (truth (all_differ es))

abbrev pub not_row : List Tree → Applied
not_row (t ∷ []) =
    elim (is_true t) [
      | true ↦ gives false_symbol
      | false ↦ elim (is_false t) [ true ↦ gives true_symbol | false ↦ unchanged ]
    ]
not_row es = unchanged
