-- The kinds of runs: how what a pattern binds and tests is lent.
use Rattle.std.specs.Prelude.{◌≢◌, ◌≤◌, ◌<◌, ℕ, Bool, true, false, not, ◌&&◌, ◌||◌, IsTrue, List, [], ◌∷◌, length, ⊤}
use Rattle.std.specs.Str.{bytes_eq}
use Rattle.std.specs.List.{All}
use Rattle.wl_expr.specs.Tree.{Tree}
use Rattle.wl_expr.specs.Same.{same}
use Rattle.wl_expr.specs.Stamped.{Stamped, plain}
use Rattle.wl_match.specs.declared.flags.Flags.{Flags}
use Rattle.wl_match.specs.Pattern.{Ask, applies, holds, refuses, Pat, exactly, blank, named, tested, hold, optional, alternatives, repeated, except, nodes, Pats, end, also, any_optional}
use Rattle.wl_match.specs.Trials.{Site, stretches}
use Rattle.wl_match.specs.Runs.{elements_of}
use Rattle.wl_match.specs.declared.lent.Run.{Run}
use Rattle.wl_match.specs.declared.lent.Run.TheVariants as run

-- an empty slice is a kind of its own
pub data Kind : Type 0 where
  One : Kind
  Empty : Kind
  Slice : Kind
  Picked : Kind
  Wrapped : Kind

-- what a run is for: it is bound to a name, or tested
pub data Purpose : Type 0 where
  of_name : List ℕ → Purpose
  of_test : Ask → Purpose

abbrev pub same_kind : Kind → Kind → Bool
same_kind One One = true
same_kind Empty Empty = true
same_kind Slice Slice = true
same_kind Picked Picked = true
same_kind Wrapped Wrapped = true
same_kind _ _ = false

abbrev pub same_ask : Ask → Ask → Bool
same_ask (applies t) (applies u) = same t u
same_ask (holds t) (holds u) = same t u
same_ask (refuses t) (refuses u) = same t u
same_ask _ _ = false

abbrev pub same_purpose : Purpose → Purpose → Bool
same_purpose (of_name x) (of_name y) = bytes_eq x y
same_purpose (of_test a) (of_test b) = same_ask a b
same_purpose _ _ = false

abbrev pub is_it : Purpose → Kind → Purpose → Kind → Bool
is_it y j x k = same_purpose y x && same_kind j k

-- an element takes one expression; or none or more of them side by side, or picked under an orderless head; or two and more as one
-- under a flat head; where one expression stands alone, that one or none
abbrev pub any_kind : Flags → Bool → Bool → (Kind → Bool) → Bool
any_kind f alone stretched g =
    g One
    || ((not f.orderless || alone) && g Empty)
    || (not f.orderless && g Slice)
    || (f.orderless && g Picked)
    || (stretched && g Wrapped)

-- whether a pattern on a run of kind j may take a run of kind k for this purpose
abbrev mutual
  pub lends : Pat → Kind → Purpose → Kind → Bool
  lends (exactly t) j x k = false
  lends (blank c h) j x k = false
  lends (named y q) j x k = is_it (of_name y) j x k || lends q j x k
  lends (tested a q) j x k = is_it (of_test a) j x k || lends q j x k
  lends (hold q) j x k = lends q j x k
  lends (optional d q) j x k = lends q j x k
  lends (alternatives qs) j x k = any_lends qs j x k
  lends (repeated c q) j x k = lends q One x k
  lends (except c q) j x k = is_it (of_test (refuses c)) j x k || lends q j x k
  lends (nodes f h hp ps) j x k = lends hp One x k || elements_lend (record { head = h; flags = f }) (f.one_identity && any_optional ps) ps x k

  pub any_lends : Pats → Kind → Purpose → Kind → Bool
  any_lends end j x k = false
  any_lends (also q qs) j x k = lends q j x k || any_lends qs j x k

  pub elements_lend : Site → Bool → Pats → Purpose → Kind → Bool
  elements_lend s alone end x k = false
  elements_lend s alone (also p ps) x k = any_kind s.flags alone (stretches s p) (λ j. lends p j x k) || elements_lend s alone ps x k

abbrev pub kind_of_slice : List Stamped → Kind
kind_of_slice [] = Empty
kind_of_slice (t ∷ ts) = Slice

abbrev pub kind_of : Run → Kind
kind_of (run.One t) = One
kind_of (run.Slice ts) = kind_of_slice ts.now
kind_of (run.Picked t is) = Picked
kind_of (run.Wrapped t is) = Wrapped

abbrev pub ArePlaces : Tree → List ℕ → Type 0
ArePlaces t is = All (λ i. i < length (elements_of t)) is

-- a run of one is One, or Wrapped where it stands for two and more
abbrev pub IsProper : Run → Type 0
IsProper (run.One t) = ⊤
IsProper (run.Slice ts) = length ts.now ≢ 1
IsProper (run.Picked t is) = (length is.now ≢ 1) × ArePlaces (plain t.now) is.now
IsProper (run.Wrapped t is) = (2 ≤ length is.now) × ArePlaces (plain t.now) is.now

-- the whole pattern, on one expression, may take a run of this kind for this purpose
abbrev pub IsOfKind : Pat → Purpose → Run → Type 0
IsOfKind p x r = IsTrue (lends p One x (kind_of r)) × IsProper r
