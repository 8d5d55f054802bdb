use Rattle.std.proofs.Common.{arith}
use Rattle.wl_expr.specs.Stamped.{plain, plains, from_list}
use Rattle.wl_match.proofs.HeadsLemmas.{room_among, count_more, room_in_node}
use Rattle.wl_match.proofs.heads.+count.Goals as goal

pub count_among-overflow_add-count : goal.count_among-overflow_add-count
count_among-overflow_add-count t c =
    omega (arith, room_among c.args.args.now c.loop-arg.arg-index c.arg-item.result c.loop-arg-test.true c.arg-item.is, c.loop-arg.invariant, c.requires)

pub count_among-loop-arg-preserved : goal.count_among-loop-arg-preserved
count_among-loop-arg-preserved t c =
    omega (arith, count_more c.args.args.now c.loop-arg.arg-index c.arg-item.result c.loop-arg-test.true c.arg-item.is, c.loop-arg.invariant)

pub head_count-overflow_add-result : goal.head_count-overflow_add-result
head_count-overflow_add-result t c =
    omega (arith, room_in_node (plain c.in-Node.head.now) (plain c.args.p.now) (plains (from_list c.in-Node.args.now)) c.in-Node.ensures.plain, c.in-Node.ensures.fits.light)
