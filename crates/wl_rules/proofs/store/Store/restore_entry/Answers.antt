use Rattle.std.proofs.Common.{refl}
use Rattle.wl_rules.specs.Entries.{with_rules, map_rules}
use Rattle.wl_rules.specs.StampedRules.{plain_rule}
use Rattle.wl_rules.specs.Stored.{Stored, entry_at}
use Rattle.wl_rules.proofs.Rows.{defines}
use Rattle.wl_rules.proofs.store.Store.restore_entry.Goals as goal

pub returns-clause-defines : goal.returns-clause-defines
returns-clause-defines c =
    let within = rw (← c.self.view_is) at c.requires in
    let s : Stored = record { rows = c.self.inside.table; drawn = c.self.inside.drawn } in
    rw (c.swap_rules.ensures.changed, c.at_mut-entry.ensures.value, c.next_version-version.ensures, ← c.self.view_is, ← c.saved.view_is)
    (defines s c.args.index (with_rules c.saved.inside.rules (entry_at c.args.index s)) (with_rules (map_rules plain_rule c.saved.inside.rules)) within c.at_mut-entry.ensures.distinct (refl))
