-- `Part[e, i, j]`. Reference page of it.
use Rattle.std.specs.Prelude.{ℕ, ℤ, pos, Bool, true, false, ◌||◌, ◌&&◌, List, [], ◌∷◌, length, map, Option, Some, None, slice_get}
use Rattle.std.specs.List.{list_all}
use Rattle.std.specs.Option.{unwrap_or}
use Rattle.std.specs.Ordering.{int_eq}
use Rattle.wl_expr.specs.Applied.{no_part, Applied, unchanged, gives, told}
use Rattle.wl_expr.specs.Tree.{Tree, node, to_list}
use Rattle.wl_expr.specs.Words.{applied, elements, head_of, is_list, is_int, int_of}
use Rattle.wl_lists.specs.Places.{place_of}

-- the element at a place from 1, from the front, or from the end for negative numbers; the head for 0
abbrev pub element_at : List Tree → Option ℕ → Option Tree
element_at ts None = None
element_at ts (Some k) = slice_get ts k

abbrev pub at_place : Tree → List Tree → ℤ → Option Tree
at_place h ts n = elim (int_eq n (pos 0)) [ true ↦ Some h | false ↦ element_at ts (place_of (length ts) n) ]

abbrev pub part_at : Tree → Option ℤ → Option Tree
part_at (node h ts) (Some n) = at_place h (to_list ts) n
part_at e i = None

-- why looking up ends early: an index without a part, and the expression that has none; or an atom, and no index to name
pub data Failure : Type 0 where
  missing : Tree → Tree → Failure
  no_index : Failure

abbrev pub before : Option Failure → Option Failure → Option Failure
before None g = g
before (Some d) g = Some d

-- what fails at the part, or after it
abbrev pub fails_then : Tree → Tree → (Tree → Option Failure) → Option Tree → Option Failure
fails_then e i f None = Some (missing i e)
fails_then e i f (Some t) = f t

abbrev pub fails_at : Tree → (Tree → Option Failure) → Tree → Option Failure
fails_at e f i = fails_then e i f (part_at e (int_of i))

abbrev pub fails_among : Tree → (Tree → Option Failure) → List Tree → Option Failure
fails_among e f [] = None
fails_among e f (i ∷ is) = before (fails_at e f i) (fails_among e f is)

abbrev pub fails_in : Tree → (Tree → Option Failure) → List Tree → Option Failure
fails_in (node h ts) f is = fails_among (node h ts) f is
fails_in e f [] = Some no_index
fails_in e f (i ∷ is) = Some (missing i e)

-- the first failure on the walk: under a list of indices, all that fails inside the part of one comes before what fails at the next
abbrev pub failure : List Tree → Tree → Option Failure
failure [] e = None
failure (i ∷ is) e = elim (is_list i) [ true ↦ fails_in e (λ t. failure is t) (elements i) | false ↦ fails_at e (λ t. failure is t) i ]

-- the part itself, where nothing fails: the parts at a list of indices under the head of e
abbrev pub single_part : Tree → Tree → Tree
single_part e i = unwrap_or (part_at e (int_of i)) e

abbrev pub part_of : List Tree → Tree → Tree
part_of [] e = e
part_of (i ∷ is) e = elim (is_list i) [ true ↦ applied (head_of e) (map (λ j. part_of is (single_part e j)) (elements i)) | false ↦ part_of is (single_part e i) ]

abbrev pub is_index : Tree → Bool
is_index i = is_int i || (is_list i && list_all is_int (elements i))

abbrev pub part_answer : Tree → Option Failure → Applied
part_answer t None = gives t
part_answer t (Some (missing i e)) = told (no_part i e)
part_answer t (Some no_index) = unchanged

abbrev pub part_row : List Tree → Applied
part_row (node h ts ∷ i ∷ is) = elim (list_all is_index (i ∷ is)) [ true ↦ part_answer (part_of (i ∷ is) (node h ts)) (failure (i ∷ is) (node h ts)) | false ↦ unchanged ]
part_row es = unchanged
