use Rattle.std.proofs.Common.{sym}
use Rattle.wl_rules.proofs.Rows.{value_at-rows, row_found}
use Rattle.wl_rules.proofs.table.Table.find.Goals as goal

pub returns-in-None-clause-found : goal.returns-in-None-clause-found
returns-in-None-clause-found c = rw (← c.self.view_is, value_at-rows c.args.name.now c.self.inside.entries.entries) (sym c.in-None.ensures.value)

pub returns-in-Some-clause-found : goal.returns-in-Some-clause-found
returns-in-Some-clause-found c =
    rw (← c.self.view_is) (row_found c.args.name.now c.self.inside.entries.entries c.in-Some.at c.in-Some.field-0-1.now c.in-Some.entry.now c.in-Some.ensures.entry c.in-Some.ensures.key c.in-Some.ensures.value)
