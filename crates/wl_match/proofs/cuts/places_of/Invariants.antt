use Rattle.std.proofs.Common.{◌≡◌, ℕ, take, drop, length}
use Rattle.wl_expr.specs.Tree.{Tree}
use Rattle.std.specs.Prelude.{IsTrue}
use Rattle.wl_match.specs.Fits.{are_places}
use Rattle.wl_match.specs.Runs.{elements_of, picked}
use Rattle.wl_match.proofs.cuts.places_of.Given as goal

abbrev pub invariant-loop-at : goal.invariant-loop-at
invariant-loop-at l = (u : Tree) (m : ℕ) → l.n ≡ length (take m (drop l.start (elements_of u)))
    → (picked u l.all ≡ take l.at (take m (drop l.start (elements_of u)))) × IsTrue (are_places u l.all)
