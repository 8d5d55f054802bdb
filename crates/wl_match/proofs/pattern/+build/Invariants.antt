use Rattle.std.proofs.Common.{◌+◌, ◌*◌, take}
use Rattle.wl_expr.specs.Tree.{depth, depths}
use Rattle.wl_expr.specs.Stamped.{plain, plains, from_list}
use Rattle.wl_match.specs.Parts.{BuildsAll}
use Rattle.wl_match.proofs.pattern.+build.Given as goal

abbrev pub decreases-build : goal.decreases-build
decreases-build l = 2 * depth (plain l.p.now)

abbrev pub decreases-build_all : goal.decreases-build_all
decreases-build_all l = 2 * depths (plains (from_list l.args.now)) + 1

abbrev pub invariant-build_all-loop-arg : goal.invariant-build_all-loop-arg
invariant-build_all-loop-arg l = BuildsAll l.flags l.at (take l.arg-index l.args) l.fn.parts.items l.all.items l.next l.parts.items
