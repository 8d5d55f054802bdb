use Rattle.std.proofs.lemmas.Grind.{common_steps}
use Rattle.std.proofs.lemmas.Result.{err_from_is_err_and}
use Rattle.std.proofs.Common.{◌≤◌, length, take, ◌≡◌, ◌-◌, arith, refl, ◌∙◌}
use Rattle.std.proofs.lemmas.List.{length-take-le}
use Rattle.wl_session.proofs.Stopping.{stopped_within, stopped_last, stopped_played, rest_played}
use Rattle.wl_session.proofs.Streams.{streamed_none, streamed_on, streamed_first, streamed_taken}
use Rattle.wl_session.proofs.streaming.stream.Goals as goal

pub returns-in-Ok-eq0-clause-played : goal.returns-in-Ok-eq0-clause-played
returns-in-Ok-eq0-clause-played g c =
    let so_far = c.pieces.invariant in
    let none : c.in-Ok-eq0.field-0 ≡ 0 = c.in-Ok-eq0.field-0-test in
    let ensured = c.in-Ok-eq0.ensures in
    rest_played c.answer_rest.result _ _ _ _ _ _ _ _ _ _ _ _ _ _ _ _ so_far.streamed so_far.more none ensured.bytes (ensured.end none) c.answer_rest.ensures.answered c.answer_rest.ensures.stopped

pub returns-then-count-room-clause-played : goal.returns-then-count-room-clause-played
returns-then-count-room-clause-played g c =
    let so_far = c.pieces.invariant in
    let ensured = c.in-Ok.ensures in
    streamed_first _ _ _ _ _ _ _ _ _ _ _ _ _ _ _ _ _ so_far.streamed so_far.more c.if-count-room.true ensured.bound ensured.bytes c.in_ok-feed.ensures.fed

pub pieces-init : goal.pieces-init
pieces-init g c = record { more = omega arith; reads = refl; writes = refl; hits = refl; strays = refl; streamed = streamed_none _ _ _ _ _ c.requires }

pub pieces-preserved : goal.pieces-preserved
pieces-preserved g c =
    let so_far = c.pieces.invariant in
    let ensured = c.in-Ok.ensures in
    record {
      more = omega (arith, ensured.within);
      reads = ensured.cause.kept ∙ so_far.reads;
      writes = c.in_ok-feed-2.ensures.blamed ∙ so_far.writes;
      hits = ensured.hits ∙ so_far.hits;
      strays = ensured.strays ∙ so_far.strays;
      streamed =
          streamed_on _ _ _ _ _ _ _ _ _ _ _ _ _ _ _ _ _ _ so_far.streamed ensured.bytes c.in_ok-feed-2.ensures.fed (length-take-le _ _ ensured.bound) (omega (arith, ensured.within));
    }

pub feed-requires : goal.feed-requires
feed-requires g c =
    let ensured = c.in-Ok.ensures in
    let budget = streamed_taken _ _ _ _ _ _ _ _ _ _ c.pieces.invariant.streamed in
    let few : length (take (c.in-Ok.count - 1) c.read_piece.new.piece) ≤ c.in-Ok.count = grind (arith, common_steps, ensured.bound) in
    omega (arith, ensured.within, budget, few)

pub feed-requires-in-pieces : goal.feed-requires-in-pieces
feed-requires-in-pieces g c =
    let ensured = c.in-Ok.ensures in
    let budget = streamed_taken _ _ _ _ _ _ _ _ _ _ c.pieces.invariant.streamed in
    omega (arith, ensured.within, budget, length-take-le _ _ ensured.bound)

pub returns-in_err-feed-clause-played : goal.returns-in_err-feed-clause-played
returns-in_err-feed-clause-played g c =
    let so_far = c.pieces.invariant in
    let ensured = c.in-Ok.ensures in
    let p = err_from_is_err_and c.from_residual.result c.from_residual.ensures.1 in
    rw (p.1, p.2) (stopped_played _ _ _ _ _ _ _ _ _ (stopped_last _ _ _ _ _ _ _ _ _ _ _ _ _ _ _ _ _ so_far.streamed so_far.more c.if-count-room.true ensured.bound ensured.bytes c.in_err-feed.ensures.stopped))

pub returns-in_err-feed-2-clause-played : goal.returns-in_err-feed-2-clause-played
returns-in_err-feed-2-clause-played g c =
    let so_far = c.pieces.invariant in
    let ensured = c.in-Ok.ensures in
    let p = err_from_is_err_and c.from_residual-in_err-feed-2.result c.from_residual-in_err-feed-2.ensures.1 in
    rw (p.1, p.2) (stopped_played _ _ _ _ _ _ _ _ _ (stopped_within _ _ _ _ _ _ _ _ _ _ _ _ _ _ _ _ _ so_far.streamed ensured.bound (omega (arith, ensured.within, c.if-count-room.false)) ensured.bytes c.in_err-feed-2.ensures.stopped))
