use Rattle.std.proofs.Common.{sym}
use Rattle.wl_rules.proofs.Rows.{row_at-value}
use Rattle.wl_rules.proofs.table.Table.at.Goals as goal

pub returns : goal.returns
returns c = rw (← c.self.view_is) (sym (row_at-value c.self.inside.entries.entries c.args.at c.index.result.now c.index.ensures))
