use Rattle.wl_rules.proofs.Rows.{definitions-with_name}
use Rattle.wl_rules.proofs.store.Store.index_of.Goals as goal

pub returns-clause-definitions : goal.returns-clause-definitions
returns-clause-definitions c = λ x. rw (c.in_ok-at.ensures.ok, ← c.self.view_is) (definitions-with_name c.self.inside.table c.args.name.now x)
