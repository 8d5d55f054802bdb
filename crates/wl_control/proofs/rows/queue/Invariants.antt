use Rattle.std.proofs.Common.{◌≡◌, take}
use Rattle.wl_control.proofs.rows.queue.Given as goal

abbrev pub invariant-loop-arg : goal.invariant-loop-arg
invariant-loop-arg l = l.queue.items ≡ take l.arg-index l.args
