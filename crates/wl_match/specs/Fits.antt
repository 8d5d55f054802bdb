-- What a search has bound and noted fits its pattern: each run is of a kind that the pattern may take for this purpose, a run under a
-- head of its own stands for elements of a node that has this head, and a test was noted for a part that has one.
use Rattle.std.specs.Prelude.{ℕ, zero, suc, Bool, true, false, ◌&&◌, nat_eq, nat_lt, if◌then◌else◌, List, [], ◌∷◌, length}
use Rattle.wl_expr.specs.Tree.{Tree}
use Rattle.wl_expr.specs.Same.{same}
use Rattle.wl_match.specs.declared.part.Part.{Part}
use Rattle.wl_match.specs.declared.part.Part.TheVariants as part
use Rattle.wl_match.specs.declared.taken.Taken.{Taken}
use Rattle.wl_match.specs.declared.taken.Taken.TheVariants as taken
use Rattle.wl_match.specs.declared.taken.Mark.{Mark}
use Rattle.wl_match.specs.declared.taken.Mark.TheVariants.{Bound, Noted}
use Rattle.wl_match.specs.Parts.{whole}
use Rattle.wl_match.specs.Runs.{child, elements_of, kept_at, part_at, run_at, tree_at}
use Rattle.wl_match.specs.Means.{ask_at, name_at}
use Rattle.wl_match.specs.Kinds.{Kind, One, Empty, Slice, Picked, Wrapped, Purpose, of_name, of_test, lends}

abbrev pub one_or : ℕ → Kind → Kind
one_or n k = if nat_eq n 1 then One else k

abbrev pub slice_kind : ℕ → Kind
slice_kind zero = Empty
slice_kind (suc zero) = One
slice_kind (suc (suc n)) = Slice

abbrev pub kind_at : List Part → Tree → Taken → Kind
kind_at ss t taken.Nothing = Empty
kind_at ss t (taken.Tree p) = One
kind_at ss t (taken.Slice p from n) = slice_kind (length (run_at ss t (taken.Slice p from n)))
kind_at ss t (taken.Picked p is) = one_or (length is) Picked
kind_at ss t (taken.Wrapped i p is) = Wrapped

abbrev pub are_places : Tree → List ℕ → Bool
are_places t [] = true
are_places t (i ∷ is) = nat_lt i (length (elements_of t)) && are_places t is

abbrev pub fits : List Part → Tree → Taken → Bool
fits ss t taken.Nothing = true
fits ss t (taken.Tree p) = true
fits ss t (taken.Slice p from n) = true
fits ss t (taken.Picked p is) = are_places (tree_at ss t p) is
fits ss t (taken.Wrapped i p is) = same (kept_at ss t i) (child 0 (tree_at ss t p)) && nat_lt 1 (length is) && are_places (tree_at ss t p) is

-- whether a part has a test
abbrev pub has_test : Part → Bool
has_test (part.Applies t q) = true
has_test (part.Holds c q) = true
has_test (part.Except c q) = true
has_test _ = false

abbrev pub may_lend : List Part → Tree → Purpose → Taken → Bool
may_lend ss t x r = lends (whole ss) One x (kind_at ss t r)

abbrev pub mark_fits : List Part → Tree → Mark → Bool
mark_fits ss t (Bound i r) = fits ss t r && may_lend ss t (of_name (name_at (part_at ss i))) r
mark_fits ss t (Noted i r) = has_test (part_at ss i) && fits ss t r && may_lend ss t (of_test (ask_at (part_at ss i))) r

abbrev pub all_fit : List Part → Tree → List Mark → Bool
all_fit ss t [] = true
all_fit ss t (m ∷ ms) = mark_fits ss t m && all_fit ss t ms
