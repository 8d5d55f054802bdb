use Rattle.std.proofs.Common.{◌≡◌, ◌+◌, ◌*◌, drop}
use Rattle.wl_expr.specs.Stamped.{plain, plains, from_list}
use Rattle.wl_expr.specs.Tree.{depth, depths}
use Rattle.wl_algebra.specs.Spliced.{spliced_in}
use Rattle.wl_algebra.specs.Standings.{better_by, with_trees}
use Rattle.wl_algebra.proofs.extremes.+spliced.Given as goal

abbrev pub decreases-with_spliced : goal.decreases-with_spliced
decreases-with_spliced l = 2 * depth (plain l.e.now)

abbrev pub decreases-with_all : goal.decreases-with_all
decreases-with_all l = 2 * depths (plains (from_list l.args.now)) + 1

abbrev pub invariant-with_all-loop-arg : goal.invariant-with_all-loop-arg
invariant-with_all-loop-arg l = with_trees (better_by l.extreme) l.best (spliced_in (plains (from_list (drop l.arg-index l.args)))) ≡ with_trees (better_by l.extreme) l.initial.best (spliced_in (plains (from_list l.args)))
