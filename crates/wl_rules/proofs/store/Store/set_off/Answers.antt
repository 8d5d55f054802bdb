use Rattle.wl_rules.specs.Entries.{set_off}
use Rattle.wl_rules.specs.Stored.{Stored, entry_at}
use Rattle.wl_rules.proofs.Rows.{defines}
use Rattle.wl_rules.proofs.Plain.{set_off_plain}
use Rattle.wl_rules.proofs.store.Store.set_off.Goals as goal

pub returns-clause-defines : goal.returns-clause-defines
returns-clause-defines c =
    let within = rw (← c.self.view_is) at c.requires in
    let s : Stored = record { rows = c.self.inside.table; drawn = c.self.inside.drawn } in
    rw (c.in_ok-set_off.ensures.ok, c.at_mut-entry.ensures.value, c.next_version-version.ensures, ← c.self.view_is)
    (defines s c.args.index (set_off c.args.tag.now c.args.off (entry_at c.args.index s)) (set_off c.args.tag.now c.args.off) within c.at_mut-entry.ensures.distinct (set_off_plain c.args.tag.now c.args.off (entry_at c.args.index s)))
