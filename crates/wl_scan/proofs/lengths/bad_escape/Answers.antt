use Rattle.std.proofs.Common.{ne_eqb}
use Rattle.wl_scan.proofs.Escapes.{bad_taken, bad_plain}
use Rattle.wl_scan.proofs.lengths.bad_escape.Goals as goal

pub loop-place-preserved-then-taken : goal.loop-place-preserved-then-taken
loop-place-preserved-then-taken c = bad_taken _ _ _ _ c.loop-place-test.true c.if-taken.true c.loop-place.invariant

pub loop-place-preserved-then-not-taken : goal.loop-place-preserved-then-not-taken
loop-place-preserved-then-not-taken c = bad_plain _ _ _ _ c.loop-place-test.true c.if-taken.false (ne_eqb _ _ c.if-byte-eq34.false) (ne_eqb _ _ c.if-not-taken.true) c.loop-place.invariant
