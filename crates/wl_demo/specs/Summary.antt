-- What is written of the demonstration's run in place of its answers; the lines are this project's own.
use Rattle.std.specs.Prelude.{ℕ, [], ◌∷◌, ◌++◌, codes, decimal}
use Rattle.wl_demo.specs.Notebook.{Bytes}

-- three lines: how many cells there were, how many of them were refused, and the steps of all
abbrev pub summary : ℕ → ℕ → ℕ → Bytes
summary cells refused steps =
    codes "cells " ++ decimal cells
    ++ 10 ∷ codes "refused " ++ decimal refused
    ++ 10 ∷ codes "steps " ++ decimal steps ++ 10 ∷ []
