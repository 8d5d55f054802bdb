-- The canonical order of trees, in which the elements of sums and products stand. As on the manual's page of `Sort`, numbers come before texts and these before the rest, products and powers stand as the terms of a polynomial, and shorter nodes come first; how names are compared and ties are settled is this project's own.
use Rattle.std.specs.Prelude.{ℕ, not, pos, List, [], ◌∷◌, length, map, filter, reverse, codes, if◌then◌else◌}
use Rattle.std.specs.Cmp.Lexicographic.{slice_cmp}
use Rattle.std.specs.Ordering.{nat_cmp, ordering_then}
use Rattle.std.specs.Str.{str_to_ascii_lowercase}
use Rattle.std.specs.declared.cmp.Ordering.{Ordering}
use Rattle.std.specs.declared.cmp.Ordering.TheVariants.{Less, Equal, Greater}
use Rattle.wl_exact.specs.Arithmetic.{fraction_cmp}
use Rattle.wl_exact.specs.Fraction.{Fraction, of_int}
use Rattle.wl_expr.specs.Tree.{Tree, Trees, num, text, symbol, node, none, more, to_list}
use Rattle.wl_expr.specs.Words.{is_number, is_the}

-- ---- the structural order: numbers, texts, symbols, nodes

abbrev pub bytes_order : List ℕ → List ℕ → Ordering
bytes_order s t = slice_cmp nat_cmp s t

-- by letters whatever their case; where these are the same, lower case comes first
abbrev pub name_order : List ℕ → List ℕ → Ordering
name_order s t = ordering_then (bytes_order (str_to_ascii_lowercase s) (str_to_ascii_lowercase t)) (bytes_order t s)

-- numbers by value, texts by bytes, symbols by name, nodes by the number of their elements, then by the head, then by the elements
abbrev mutual
  pub structural_order : Tree → Tree → Ordering
  structural_order (num n) (num m) = fraction_cmp n m
  structural_order (num n) b = Less
  structural_order (text s) (num m) = Greater
  structural_order (text s) (text t) = bytes_order s t
  structural_order (text s) b = Less
  structural_order (symbol s) (symbol t) = name_order s t
  structural_order (symbol s) (node k us) = Less
  structural_order (symbol s) b = Greater
  structural_order (node h ts) (node k us) = ordering_then (nat_cmp (length (to_list ts)) (length (to_list us))) (ordering_then (structural_order h k) (structural_orders ts us))
  structural_order (node h ts) b = Greater

  -- elements in turn
  pub structural_orders : Trees → Trees → Ordering
  structural_orders none none = Equal
  structural_orders none (more u us) = Less
  structural_orders (more t ts) none = Greater
  structural_orders (more t ts) (more u us) = ordering_then (structural_order t u) (structural_orders ts us)

-- ---- factors

abbrev pub without_numbers : List Tree → List Tree
without_numbers ts = filter (λ t. not (is_number t)) ts

-- the factors of a product are its elements but for the numbers; any other tree is its own only factor
abbrev pub factors : Tree → List Tree
factors (node h ts) = if is_the (codes "Times") h then without_numbers (to_list ts) else node h ts ∷ []
factors t = t ∷ []

-- a base and its exponent
pub record Power : Type 0 where
  pub base : Tree
  pub exponent : Fraction

-- `b^e` with a number e has the base b; any other factor is its own base, and has the exponent 1
abbrev pub power_of : Tree → Power
power_of (node h (more b (more (num e) none))) =
    if is_the (codes "Power") h then record { base = b; exponent = e } else record { base = node h (more b (more (num e) none)); exponent = of_int (pos 1) }
power_of t = record { base = t; exponent = of_int (pos 1) }

abbrev pub power_order : Power → Power → Ordering
power_order p q = ordering_then (structural_order p.base q.base) (fraction_cmp p.exponent q.exponent)

-- the powers of some factors, the last first
abbrev pub last_first : List Tree → List Power
last_first ts = reverse (map power_of ts)

-- ---- the canonical order

-- Numbers stand by value, and texts after them by bytes. Of any other two trees the factors tell, from the last of each to its first, and the tree that runs out of them comes first. Where no factor tells, the structure does.
abbrev pub canonical_order : Tree → Tree → Ordering
canonical_order (num n) (num m) = fraction_cmp n m
canonical_order (num n) b = Less
canonical_order a (num m) = Greater
canonical_order (text s) (text t) = bytes_order s t
canonical_order (text s) b = Less
canonical_order a (text t) = Greater
canonical_order a b = ordering_then (slice_cmp power_order (last_first (factors a)) (last_first (factors b))) (structural_order a b)
