use Rattle.std.proofs.Common.{◌≡◌, ◌≤◌, ◌-◌, length, take}
use Rattle.wl_session.specs.SessionView.{state_of}
use Rattle.wl_session.specs.Streaming.{HasFed}
use Rattle.wl_session.proofs.streaming.feed.Given as goal

abbrev pub invariant-loop-at : goal.invariant-loop-at
invariant-loop-at g l = record {
  within : l.at ≤ length l.piece;
  quiet : g.K.Sink.faults l.out ≡ g.K.Sink.faults l.initial.out;
  fed :
      HasFed l.initial.cells l.cells (state_of l.initial.session) (state_of l.session) (g.K.Sink.held l.initial.out) (g.K.Sink.held l.out) l.initial.work l.work
      (take l.at l.piece);
}

abbrev pub decreases-loop-at : goal.decreases-loop-at
decreases-loop-at g l = length l.piece - l.at
