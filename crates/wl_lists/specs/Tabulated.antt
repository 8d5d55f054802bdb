-- A list by its places.
use Rattle.std.specs.Prelude.{ℕ, zero, suc, ◌+◌, List, [], ◌∷◌}
use Rattle.wl_expr.specs.Tree.{Tree}

-- n trees, from that of place k on
abbrev pub tabulated : (ℕ → Tree) → ℕ → ℕ → List Tree
tabulated g k zero = []
tabulated g k (suc n) = g k ∷ tabulated g (k + 1) n
