use Rattle.wl_match.specs.Parts.{pats_of}
use Rattle.wl_match.specs.Pattern.{holds}
use Rattle.wl_match.proofs.FormsLemmas.{tested_args, tested_parts}
use Rattle.wl_match.proofs.forms.tested_by_condition.Goals as goal

pub returns-in_default-clause-is : goal.returns-in_default-clause-is
returns-in_default-clause-is c f p = tested_args holds c.args.args.now (pats_of f c.args.parts.now) p c.in_default.ensures

pub returns-in_default-both-clause-is : goal.returns-in_default-both-clause-is
returns-in_default-both-clause-is c f p = tested_parts holds c.args.args.now _ _ f c.args.parts.now p c.in-Some.ensures c.in_default-both.ensures
