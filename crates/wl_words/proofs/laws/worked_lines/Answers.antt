use Rattle.wl_words.proofs.Lines.{worked_steps, worked_totals, worked_forms, worked_demos, worked_files}
use Rattle.wl_words.proofs.laws.worked_lines.Goals as goal

pub returns : goal.returns
returns c = record { steps = worked_steps; totals = worked_totals; forms = worked_forms; demos = worked_demos; files = worked_files }
