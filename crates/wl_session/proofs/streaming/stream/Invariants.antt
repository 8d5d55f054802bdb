use Rattle.std.proofs.Common.{◌≡◌, ◌<◌}
use Rattle.wl_session.specs.SessionView.{state_of}
use Rattle.wl_session.proofs.Streams.{HasStreamed}
use Rattle.wl_session.proofs.streaming.stream.Given as goal

abbrev pub invariant-pieces : goal.invariant-pieces
invariant-pieces g l = record {
  more : 0 < l.room;
  reads : g.S.Source.faults l.source ≡ g.S.Source.faults l.initial.source;
  writes : g.K.Sink.faults l.out ≡ g.K.Sink.faults l.initial.out;
  hits : g.S.Source.hits l.source ≡ g.S.Source.hits l.initial.source;
  strays : g.S.Source.strays l.source ≡ g.S.Source.strays l.initial.source;
  streamed :
      HasStreamed (g.S.Source.left l.initial.source) (g.S.Source.left l.source) l.cells (state_of l.initial.session) (state_of l.session) (g.K.Sink.held l.initial.out) (g.K.Sink.held l.out)
      l.initial.work l.work l.room;
}

abbrev pub decreases-pieces : goal.decreases-pieces
decreases-pieces g l = l.room
