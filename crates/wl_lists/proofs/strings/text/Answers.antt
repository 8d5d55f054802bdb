use Rattle.wl_lists.proofs.Faults.{text_made}
use Rattle.wl_lists.proofs.strings.text.Goals as goal

pub returns-clause-made : goal.returns-clause-made
returns-clause-made c = text_made c.args.s.now _ c.text.ensures.ok c.text.ensures.large
