use Rattle.std.proofs.Common.{◌≡◌, ◌+◌, ◌*◌, take, length}
use Rattle.wl_expr.specs.Tree.{depth, depths}
use Rattle.wl_expr.specs.Stamped.{plain, plains, from_list}
use Rattle.wl_match.specs.Heads.{heads_in}
use Rattle.wl_match.proofs.heads.+seek.Given as goal

abbrev pub decreases-seek : goal.decreases-seek
decreases-seek l = 3 * depth (plain l.p.now)

abbrev pub decreases-seek_above : goal.decreases-seek_above
decreases-seek_above l = 3 * depth (plain l.head.now) + 1

abbrev pub decreases-seek_among : goal.decreases-seek_among
decreases-seek_among l = 3 * depths (plains (from_list l.args.now)) + 1

abbrev pub invariant-seek_among-loop-arg : goal.invariant-seek_among-loop-arg
invariant-seek_among-loop-arg l = l.k ≡ length (heads_in (plains (from_list (take l.arg-index l.args)))) + l.left
