use Rattle.wl_match.proofs.HeadsLemmas.{found_among, passed_among}
use Rattle.wl_match.proofs.heads.+seek.Goals as goal

pub seek_among-returns-in-Found-clause-sought : goal.seek_among-returns-in-Found-clause-sought
seek_among-returns-in-Found-clause-sought t c =
    found_among c.args.args.now c.loop-arg.arg-index c.args.k c.loop-arg.left c.arg-item.result c.in-Found.name.now c.loop-arg-test.true c.arg-item.is c.loop-arg.invariant c.in-Found.ensures.sought

pub seek_among-loop-arg-preserved : goal.seek_among-loop-arg-preserved
seek_among-loop-arg-preserved t c =
    passed_among c.args.args.now c.loop-arg.arg-index c.args.k c.loop-arg.left c.in-Past.past c.arg-item.result c.loop-arg-test.true c.arg-item.is c.loop-arg.invariant c.in-Past.ensures.sought
