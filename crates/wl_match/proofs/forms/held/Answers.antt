use Rattle.wl_match.specs.Pattern.{hold}
use Rattle.wl_match.proofs.FormsLemmas.{one_other}
use Rattle.wl_match.proofs.forms.held.Goals as goal

pub returns-in-None-clause-is : goal.returns-in-None-clause-is
returns-in-None-clause-is c f p = one_other hold f c.args.parts.now p c.in-None.ensures
