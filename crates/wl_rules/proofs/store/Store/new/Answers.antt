use Rattle.wl_rules.proofs.Started.{start_versions}
use Rattle.wl_rules.proofs.store.Store.new.Goals as goal

pub invariant_of-result : goal.invariant_of-result
invariant_of-result c = start_versions c.in_ok-start.field-0 c.in_ok-start.ensures
