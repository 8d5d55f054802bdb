use Rattle.wl_match.specs.Parts.{pats_of}
use Rattle.wl_match.proofs.FormsLemmas.{optional_args, optional_part, optional_parts}
use Rattle.wl_match.proofs.forms.optional.Goals as goal

pub returns-in-Some-clause-is : goal.returns-in-Some-clause-is
returns-in-Some-clause-is c f p = optional_part c.args.args.now _ f c.args.parts.now p c.in-Some.ensures c.in_default-only.ensures

pub returns-in_default-both-clause-is : goal.returns-in_default-both-clause-is
returns-in_default-both-clause-is c f p = optional_args c.args.args.now (pats_of f c.args.parts.now) p c.in_default.ensures c.in_default-both.ensures

pub returns-in_default-both-2-clause-is : goal.returns-in_default-both-2-clause-is
returns-in_default-both-2-clause-is c f p = optional_parts c.args.args.now _ _ f c.args.parts.now p c.in-Some-both.ensures c.in_default-both-2.ensures
