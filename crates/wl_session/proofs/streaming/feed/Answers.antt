use Rattle.std.proofs.lemmas.Grind.{common_steps}
use Rattle.std.proofs.lemmas.Result.{err_from_is_err_and}
use Rattle.std.proofs.Common.{◌≤◌, ◌+◌, ◌-◌, length, take, drop, arith, ◌∙◌}
use Rattle.wl_session.proofs.Pieces.{taken_on, piece_parts}
use Rattle.wl_session.proofs.Stopping.{stopped_fed}
use Rattle.wl_session.proofs.Answering.{fed_on, fed_cell, fed_taken, told_of, told_of_none}
use Rattle.wl_session.proofs.streaming.feed.Goals as goal

pub loop-at-preserved-in-Continue-1 : goal.loop-at-preserved-in-Continue-1
loop-at-preserved-in-Continue-1 g c =
    let fed = c.feed-fed.ensures in
    record {
      within = grind (arith, common_steps, fed.within);
      quiet = c.in_ok-answer_cell.ensures.blamed ∙ c.loop-at.invariant.quiet;
      fed = fed_cell _ _ _ _ _ _ _ _ _ _ _ _ _ _ _ _ c.loop-at.invariant.fed fed.after (told_of _ _ _ fed.told c.if-fed.true) c.in_ok-answer_cell.ensures.answered (taken_on _ _ _);
    }

pub loop-at-preserved : goal.loop-at-preserved
loop-at-preserved g c =
    let fed = c.feed-fed.ensures in
    record {
      within = grind (arith, common_steps, fed.within);
      quiet = c.loop-at.invariant.quiet;
      fed = fed_on _ _ _ _ _ _ _ _ _ _ _ _ c.loop-at.invariant.fed fed.after (told_of_none _ _ _ fed.told c.if-fed.false) (taken_on _ _ _);
    }

pub feed-fed-requires : goal.feed-fed-requires
feed-fed-requires g c =
    let so_far = c.loop-at.invariant in
    let taken = fed_taken _ _ _ _ _ _ _ _ _ so_far.fed in
    let lengths : length (take c.loop-at.at c.args.piece.now) + length (take (length c.args.piece.now - c.loop-at.at) (drop c.loop-at.at c.args.piece.now)) ≤ length c.args.piece.now = grind (arith, common_steps, so_far.within) in
    omega (arith, taken, lengths, c.requires)

pub returns-in_err-answer_cell-clause-stopped : goal.returns-in_err-answer_cell-clause-stopped
returns-in_err-answer_cell-clause-stopped g c =
    let fed = c.feed-fed.ensures in
    let piece = c.args.piece.now in
    let at = c.loop-at.at in
    let used = c.feed-fed.result.used in
    let p = err_from_is_err_and c.from_residual.result c.from_residual.ensures.1 in
    rw (p.1, p.2)
    (stopped_fed _ _ _ _ _ _ _ _ _ _ _ _ (take at piece) (take used (take (length piece - at) (drop at piece))) (drop (at + used) piece) piece _ c.loop-at.invariant.fed (told_of _ _ _ fed.told c.if-fed.true) c.in_err-answer_cell.ensures.stopped
    (piece_parts piece at used))
