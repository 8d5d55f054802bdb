-- The choices keep less and less of the cells and of the marks.
use Rattle.std.specs.Prelude.{ℕ, ◌≤◌, List, [], ◌∷◌, ⊤}
use Rattle.std.specs.Coded.{×_prop, Unit-prop, le_prop}
use Rattle.wl_match.specs.declared.taken.Choice.{Choice}

abbrev pub IsNested : ℕ → ℕ → List Choice → Type 0
IsNested n m [] = ⊤
IsNested n m (c ∷ cs) = (c.goals ≤ c.cells) × ((c.cells ≤ n) × ((c.marks ≤ m) × IsNested c.cells c.marks cs))

pub IsNested-prop : (n m : ℕ) (cs : List Choice) → IsProp (IsNested n m cs)
IsNested-prop n m [] = Unit-prop
IsNested-prop n m (c ∷ cs) = ×_prop (le_prop {n = c.goals} {m = c.cells}) (×_prop (le_prop {n = c.cells} {m = n}) (×_prop (le_prop {n = c.marks} {m = m}) (IsNested-prop c.cells c.marks cs)))

-- so do the goals
abbrev pub IsWhole : ℕ → ℕ → ℕ → List Choice → Type 0
IsWhole g n m cs = (g ≤ n) × IsNested n m cs

pub IsWhole-prop : (g n m : ℕ) (cs : List Choice) → IsProp (IsWhole g n m cs)
IsWhole-prop g n m cs = ×_prop (le_prop {n = g} {m = n}) (IsNested-prop n m cs)
