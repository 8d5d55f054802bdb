use Rattle.std.proofs.Common.{ℕ, ◌<◌, get_or}
use Rattle.wl_ports.specs.Counted.{TicksAtMost}
use Rattle.wl_stamps.specs.Live.{IsLiveRead}
use Rattle.wl_stamps.specs.Reads.{Read}
use Rattle.wl_stamps.proofs.liveness.live.Given as goal

abbrev pub invariant-loop-k : goal.invariant-loop-k
invariant-loop-k g l = ((j : ℕ) (d : Read) → j < l.k → IsLiveRead l.store (get_or l.stamp.reads j d)) × TicksAtMost l.k l.fn.work l.work
