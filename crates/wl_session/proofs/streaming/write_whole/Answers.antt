use Rattle.std.proofs.Common.{arith, ◌∙◌}
use Rattle.std.proofs.lemmas.Grind.{common_steps}
use Rattle.wl_session.proofs.Pieces.{appends_on, part_written}
use Rattle.wl_session.proofs.streaming.write_whole.Goals as goal

pub returns-in-Err-clause-part : goal.returns-in-Err-clause-part
returns-in-Err-clause-part g c = part_written _ _ _ _ _ c.loop-at.invariant.written c.in-Err.ensures.bytes

pub loop-at-preserved : goal.loop-at-preserved
loop-at-preserved g c =
    let ensured = c.in-Ok.ensures in
    record {
      within = grind (arith, common_steps, ensured.bound);
      quiet = ensured.cause.kept ∙ c.loop-at.invariant.quiet;
      written = appends_on _ _ _ _ _ _ c.loop-at.invariant.written ensured.bytes;
    }
