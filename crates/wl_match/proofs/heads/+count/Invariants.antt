use Rattle.std.proofs.Common.{◌≡◌, ◌+◌, ◌*◌, take, length}
use Rattle.wl_expr.specs.Tree.{depth, depths}
use Rattle.wl_expr.specs.Stamped.{plain, plains, from_list}
use Rattle.wl_match.specs.Heads.{heads_in}
use Rattle.wl_match.proofs.heads.+count.Given as goal

abbrev pub decreases-head_count : goal.decreases-head_count
decreases-head_count l = 3 * depth (plain l.p.now)

abbrev pub decreases-count_above : goal.decreases-count_above
decreases-count_above l = 3 * depth (plain l.head.now) + 1

abbrev pub decreases-count_among : goal.decreases-count_among
decreases-count_among l = 3 * depths (plains (from_list l.args.now)) + 1

abbrev pub invariant-count_among-loop-arg : goal.invariant-count_among-loop-arg
invariant-count_among-loop-arg l = l.count ≡ length (heads_in (plains (from_list (take l.arg-index l.args))))
