use Rattle.std.proofs.Common.{◌≡◌, map, take}
use Rattle.wl_expr.specs.Tree.{Tree}
use Rattle.wl_match.specs.Runs.{picked}
use Rattle.std.specs.Prelude.{IsTrue}
use Rattle.wl_match.specs.Fits.{are_places}
use Rattle.wl_match.specs.Means.{tree_among}
use Rattle.wl_match.proofs.cuts.selected.Given as goal

abbrev pub invariant-loop-at : goal.invariant-loop-at
invariant-loop-at l = ((u : Tree) → picked u l.all ≡ map (tree_among (picked u l.places)) (take l.at-index l.chosen))
    × ((u : Tree) → IsTrue (are_places u l.places) → IsTrue (are_places u l.all))
