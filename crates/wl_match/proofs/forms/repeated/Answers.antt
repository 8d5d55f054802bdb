use Rattle.wl_match.specs.Parts.{count_of}
use Rattle.wl_match.specs.Pattern.{repeated}
use Rattle.wl_match.proofs.FormsLemmas.{one_other}
use Rattle.wl_match.proofs.forms.repeated.Goals as goal

pub returns-in-None-clause-is : goal.returns-in-None-clause-is
returns-in-None-clause-is c f p = one_other (repeated (count_of c.args.number)) f c.args.parts.now p c.in-None.ensures
