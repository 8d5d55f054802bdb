use Rattle.wl_session.proofs.ComputedLines as computed
use Rattle.wl_session.proofs.laws.worked_lines.Goals as goal

pub returns : goal.returns
returns c = computed.worked_lines
