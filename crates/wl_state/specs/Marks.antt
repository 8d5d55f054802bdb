-- What ticks leave of the counts of a work list.
use Rattle.std.specs.Prelude.{ℕ, List, [], ◌∷◌}

-- the counts as they were at the last mark
abbrev pub at_last_mark : List ℕ → List ℕ
at_last_mark [] = []
at_last_mark (x ∷ []) = 0 ∷ []
at_last_mark (x ∷ y ∷ ys) = x ∷ at_last_mark (y ∷ ys)
