use Rattle.std.proofs.Common.{◌≡◌, ℕ, map, take, drop, length}
use Rattle.wl_expr.specs.Tree.{Tree}
use Rattle.wl_match.specs.Runs.{elements_of, picked}
use Rattle.std.specs.Prelude.{IsTrue}
use Rattle.wl_match.specs.Fits.{are_places}
use Rattle.wl_match.specs.Means.{tree_among}
use Rattle.wl_match.proofs.cuts.shifted.Given as goal

abbrev pub invariant-loop-place : goal.invariant-loop-place
invariant-loop-place l = (u : Tree) (m : ℕ) → l.n ≡ length (take m (drop l.start (elements_of u)))
    → (picked u l.all ≡ map (tree_among (take m (drop l.start (elements_of u)))) (take l.place-index l.chosen)) × IsTrue (are_places u l.all)
