-- What holds of the structural and of the canonical order: each is a total order of proper trees, Equal on one tree alone.
use Rattle.std.specs.Prelude.{◌≡◌, ◌≢◌, ◌↔◌}
use Rattle.std.specs.Ordering.{ordering_reverse}
use Rattle.std.specs.declared.cmp.Ordering.{Ordering}
use Rattle.std.specs.declared.cmp.Ordering.TheVariants.{Equal, Greater}
use Rattle.wl_expr.specs.Proper.{IsProper}
use Rattle.wl_expr.specs.Tree.{Tree}

-- the other way round the answer is the opposite
abbrev pub IsAntisymmetric : (Tree → Tree → Ordering) → Type 0
IsAntisymmetric order = (a b : Tree) → order b a ≡ ordering_reverse (order a b)

-- what comes no later than b, which comes no later than c, comes no later than c
abbrev pub IsTransitive : (Tree → Tree → Ordering) → Type 0
IsTransitive order = (a b c : Tree) → IsProper a → IsProper b → IsProper c → order a b ≢ Greater → order b c ≢ Greater → order a c ≢ Greater

-- the answer is Equal exactly where the trees are identical
abbrev pub TellsApart : (Tree → Tree → Ordering) → Type 0
TellsApart order = (a b : Tree) → IsProper a → IsProper b → (order a b ≡ Equal) ↔ (a ≡ b)
