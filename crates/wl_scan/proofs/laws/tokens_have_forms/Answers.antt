use Rattle.wl_scan.proofs.Forms.{forms_from}
use Rattle.wl_scan.proofs.laws.tokens_have_forms.Goals as goal

pub returns : goal.returns
returns c = λ text utf8. forms_from 0 1 text utf8
