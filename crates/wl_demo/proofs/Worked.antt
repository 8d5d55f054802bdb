-- Worked notebooks and summaries, by computation.
use Rattle.std.proofs.Common.{refl}
use Rattle.std.specs.Fmt.{digits}
use Rattle.wl_demo.specs.Laws.{WorkedNotebooks, WorkedSummary}

pub worked_notebooks : WorkedNotebooks
unfolding digits
worked_notebooks = (refl, refl, refl, refl)

pub worked_summary : WorkedSummary
unfolding digits
worked_summary = refl
