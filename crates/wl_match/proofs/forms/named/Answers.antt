use Rattle.wl_match.specs.Parts.{pats_of}
use Rattle.wl_match.proofs.FormsLemmas.{named_args, named_parts}
use Rattle.wl_match.proofs.forms.named.Goals as goal

pub returns-in_default-clause-is : goal.returns-in_default-clause-is
returns-in_default-clause-is c f p = named_args c.args.args.now (pats_of f c.args.parts.now) p c.in_default.ensures

pub returns-in_default-both-clause-is : goal.returns-in_default-both-clause-is
returns-in_default-both-clause-is c f p = named_parts c.args.args.now _ _ f c.args.parts.now p c.in-Some.ensures c.in_default-both.ensures
