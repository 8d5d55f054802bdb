-- The leaves that a search still has.
use Rattle.std.specs.Prelude.{◌≡◌, List, [], ◌∷◌, ⊤}
use Rattle.wl_expr.specs.Tree.{Tree}
use Rattle.wl_match.specs.declared.part.Part.{Part}
use Rattle.wl_match.specs.declared.leaf.Leaf.{Leaf as Answer}
use Rattle.wl_match.specs.declared.leaf.Leaf.TheVariants as answer
use Rattle.wl_match.specs.declared.machine.Machine.{Machine}
use Rattle.wl_match.specs.declared.machine.State.{State}
use Rattle.wl_match.specs.declared.machine.State.TheVariants.{Fresh, Begun, Dead}
use Rattle.wl_match.specs.Search.{Trail, Leaf, Fail, Found}
use Rattle.wl_match.specs.Trials.{Trials}
use Rattle.wl_match.specs.Parts.{whole}
use Rattle.wl_match.specs.Plays.{rest, trail_of}
use Rattle.wl_match.specs.declared.taken.Mark.{Mark}
use Rattle.wl_match.specs.Serves.{Fits}

abbrev pub left_in : List Part → Tree → State → List Leaf
left_in ss t (Fresh a) = Trials (whole ss) t
left_in ss t (Begun w) = rest ss t w
left_in ss t Dead = []

-- the leaves that a search of this pattern on this subject still has
abbrev pub left : List Part → Tree → Machine → List Leaf
left ss t m = left_in ss t m.state

abbrev pub bound_in : List Part → Tree → State → Trail
bound_in ss t (Begun w) = trail_of ss t w
bound_in ss t _ = []

-- what the last candidate has bound and noted
abbrev pub binding : List Part → Tree → Machine → Trail
binding ss t m = bound_in ss t m.state

abbrev pub IsDead : Machine → Type 0
IsDead m = m.state ≡ Dead

-- the answer is the next leaf, or the end
abbrev pub Answers : List Part → Tree → Machine → Answer → Machine → Type 0
Answers ss t old answer.Fail new = left ss t old ≡ Fail ∷ left ss t new
Answers ss t old answer.Candidate new = left ss t old ≡ Found (binding ss t new) ∷ left ss t new
Answers ss t old answer.End new = (left ss t old ≡ []) × (left ss t new ≡ [])

abbrev pub marks_in : State → List Mark
marks_in (Begun w) = w.trail.all.items
marks_in _ = []

abbrev pub SearchesIn : List Part → Tree → State → Type 0
SearchesIn ss t (Begun w) = Fits ss t w
SearchesIn ss t _ = ⊤

-- the search, as far as it has come, is of this pattern on this subject
unfoldable pub Searches : List Part → Tree → Machine → Type 0
Searches ss t m = SearchesIn ss t m.state
