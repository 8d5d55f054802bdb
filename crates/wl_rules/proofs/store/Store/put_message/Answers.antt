use Rattle.std.proofs.Common.{refl}
use Rattle.wl_rules.specs.Entries.{put_message}
use Rattle.wl_rules.specs.Stored.{Stored, entry_at}
use Rattle.wl_rules.proofs.Rows.{defines}
use Rattle.wl_rules.proofs.store.Store.put_message.Goals as goal

pub returns-clause-defines : goal.returns-clause-defines
returns-clause-defines c =
    let within = rw (← c.self.view_is) at c.requires in
    let s : Stored = record { rows = c.self.inside.table; drawn = c.self.inside.drawn } in
    rw (c.in_ok-put_message.ensures.ok, c.at_mut-entry.ensures.value, c.next_version-version.ensures, ← c.self.view_is)
    (defines s c.args.index (put_message c.args.tag.now c.args.text.now (entry_at c.args.index s)) (put_message c.args.tag.now c.args.text.now) within c.at_mut-entry.ensures.distinct (refl))
