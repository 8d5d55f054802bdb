use Rattle.std.proofs.Common.{subst, ap, refl}
use Rattle.std.specs.Io.KnownBytes.{Appends}
use Rattle.wl_eval.specs.KernelView.{plain_lines}
use Rattle.wl_session.proofs.Answering.{begun_one, one_answered}
use Rattle.wl_session.proofs.Stopping.{stopped_writing, stopped_wanting}
use Rattle.wl_session.proofs.streaming.answer_cell.Goals as goal

pub returns-in-Ok-write_whole-clause-answered : goal.returns-in-Ok-write_whole-clause-answered
returns-in-Ok-write_whole-clause-answered g c =
    one_answered _ _ _ _ _ _ _ _ _ _ c.in-Ok.ensures.answered c.cell.ensures.text (subst (Appends _ _) c.pending.ensures c.in-Ok-write_whole.ensures.whole) (begun_one _ _ _ c.mark.ensures c.line.ensures.ticks)

pub returns-in-Err-clause-stopped : goal.returns-in-Err-clause-stopped
returns-in-Err-clause-stopped g c =
    stopped_wanting _ _ _ _ _ _ _ (ap plain_lines c.in-Err.ensures.history) c.in-Err.ensures.counts refl (begun_one _ _ _ c.mark.ensures c.line.ensures.ticks)

pub returns-in-Err-write_whole-clause-stopped : goal.returns-in-Err-write_whole-clause-stopped
returns-in-Err-write_whole-clause-stopped g c =
    stopped_writing _ _ _ _ _ _ _ _ _ _ _ c.in-Ok.ensures.answered c.cell.ensures.text c.pending.ensures c.in-Err-write_whole.ensures.part (begun_one _ _ _ c.mark.ensures c.line.ensures.ticks)
