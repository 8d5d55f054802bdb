use Rattle.wl_scan.proofs.Escapes.{closed_taken}
use Rattle.wl_scan.proofs.lengths.closed_length.Goals as goal

pub loop-place-preserved-then-taken : goal.loop-place-preserved-then-taken
loop-place-preserved-then-taken c = closed_taken _ _ _ _ c.loop-place-test.true c.if-taken.true c.loop-place.invariant
