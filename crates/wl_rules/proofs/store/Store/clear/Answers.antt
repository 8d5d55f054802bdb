use Rattle.wl_rules.specs.Entries.{cleared}
use Rattle.wl_rules.specs.Stored.{Stored, entry_at}
use Rattle.wl_rules.proofs.Rows.{defines}
use Rattle.wl_rules.proofs.Plain.{cleared_plain}
use Rattle.wl_rules.proofs.store.Store.clear.Goals as goal

pub returns-clause-defines : goal.returns-clause-defines
returns-clause-defines c =
    let within = rw (← c.self.view_is) at c.requires in
    let s : Stored = record { rows = c.self.inside.table; drawn = c.self.inside.drawn } in
    rw (c.clear.ensures, c.at_mut-entry.ensures.value, c.next_version-version.ensures, ← c.self.view_is)
    (defines s c.args.index (cleared c.args.all (entry_at c.args.index s)) (cleared c.args.all) within c.at_mut-entry.ensures.distinct (cleared_plain c.args.all (entry_at c.args.index s)))
