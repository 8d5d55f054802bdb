use Rattle.wl_syntax.proofs.Flat.{pushed}
use Rattle.wl_syntax.proofs.Steps.{list_begins}
use Rattle.wl_syntax.proofs.machine.Machine.start_list.Goals as goal

pub returns : goal.returns
returns c = list_begins _ _ _ _ _ c.requires (pushed _ _ _ c.in_ok-push.ensures.items) c.in_ok-push-2.ensures.items
