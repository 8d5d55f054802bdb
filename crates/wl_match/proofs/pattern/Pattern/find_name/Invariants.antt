use Rattle.std.proofs.Common.{◌≡◌, drop}
use Rattle.wl_expr.specs.Tree.{Tree}
use Rattle.wl_match.specs.Search.{run_of}
use Rattle.wl_match.specs.Means.{entries}
use Rattle.wl_match.proofs.Listings.{entries_at}
use Rattle.wl_match.proofs.pattern.Pattern.find_name.Given as goal

abbrev pub invariant-loop-at : goal.invariant-loop-at
invariant-loop-at l = (t : Tree) → run_of l.name (entries_at l.self t l.trail.all.now (drop l.at-index l.trail.bound.now)) ≡ run_of l.name (entries l.self t l.trail.all.now)
