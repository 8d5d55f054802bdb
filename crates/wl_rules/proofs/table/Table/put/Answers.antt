use Rattle.wl_rules.proofs.Rows.{rows-insert}
use Rattle.wl_rules.proofs.table.Table.put.Goals as goal

pub returns : goal.returns
returns c = rw (c.in_ok-insert.ensures.entries, ← c.in_ok-name.ensures.ok, ← c.self.view_is) (rows-insert c.self.inside.entries.entries c.in_ok-name.name c.args.entry)
