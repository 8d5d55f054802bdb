use Rattle.wl_match.proofs.FormsLemmas.{verbatim_other}
use Rattle.wl_match.proofs.forms.verbatim.Goals as goal

pub returns-in-None-clause-is : goal.returns-in-None-clause-is
returns-in-None-clause-is c f p = verbatim_other c.args.args.now p c.in-None.ensures
