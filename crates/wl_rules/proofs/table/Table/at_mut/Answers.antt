use Rattle.std.proofs.Common.{refl, sym}
use Rattle.wl_rules.proofs.Rows.{row_at-value, rows-set_value_at, rows_are_distinct}
use Rattle.wl_rules.proofs.table.Table.at_mut.Goals as goal

pub returns : goal.returns
returns c = (
  (refl, λ w. rw (← c.self.view_is) (rows-set_value_at c.self.inside.entries.entries c.args.at w)),
  record { writes_back = tt; value = rw (← c.self.view_is) (sym (row_at-value c.self.inside.entries.entries c.args.at c.index_mut.result.now c.index_mut.ensures.value)); distinct = rw (← c.self.view_is) (rows_are_distinct c.self.inside.entries.entries c.len-len.ensures.unique) },
)
