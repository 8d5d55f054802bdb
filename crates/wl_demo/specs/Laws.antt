-- Laws of the demonstration notebook.
use Rattle.std.specs.Prelude.{◌≡◌, ℕ, ◌*◌, ◌^◌, ◌<◌, ◌≤◌, Bool, true, ◌&&◌, nat_le, [], ◌∷◌, ◌++◌, length, codes, All}
use Rattle.std.specs.List.{list_all}
use Rattle.wl_demo.specs.Notebook.{Bytes, notebook, source}
use Rattle.wl_demo.specs.Summary.{summary}

-- the notebooks of no cell, one and two
abbrev pub WorkedNotebooks : Type 0
WorkedNotebooks =
    (notebook 0 ≡ [])
    × (notebook 1 ≡ codes "{57, 76} /. 57 -> 1" ∷ [])
    × (notebook 2 ≡ codes "{35, 9} /. 35 -> 1" ∷ codes "Sort[{41, 22, 2}]" ∷ [])
    × (source 1 ≡ codes "{57, 76} /. 57 -> 1" ++ 10 ∷ [])

abbrev pub WorkedSummary : Type 0
WorkedSummary = summary 2 0 18 ≡ codes "cells 2" ++ 10 ∷ codes "refused 0" ++ 10 ∷ codes "steps 18" ++ 10 ∷ []

abbrev pub is_printable : ℕ → Bool
is_printable b = nat_le 32 b && nat_le b 126

-- printable characters of ASCII alone, so no line feed
abbrev pub IsLine : Bytes → Type 0
IsLine text = list_all is_printable text ≡ true

-- a notebook has as many cells as it was asked for
abbrev pub CellsAreCounted : Type 0
CellsAreCounted = (n : ℕ) → length (notebook n) ≡ n

-- no cell holds a line feed, so that each is one line of the source
abbrev pub CellsAreLines : Type 0
CellsAreLines = (n : ℕ) → All IsLine (notebook n)

-- a cell has 28 bytes at most, and its line feed is one more
abbrev pub SourceIsShort : Type 0
SourceIsShort = (n : ℕ) → n < 2 ^ 32 → length (source n) ≤ 29 * n
