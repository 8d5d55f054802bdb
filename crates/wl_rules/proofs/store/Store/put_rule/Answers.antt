use Rattle.wl_rules.specs.Entries.{put_rule, left_side}
use Rattle.wl_rules.specs.StampedRules.{left_of, plain_rule}
use Rattle.wl_rules.specs.Stored.{Stored, entry_at}
use Rattle.wl_rules.proofs.Rows.{defines}
use Rattle.wl_rules.proofs.Plain.{put_rule_plain}
use Rattle.wl_rules.proofs.store.Store.put_rule.Goals as goal

pub returns-clause-defines : goal.returns-clause-defines
returns-clause-defines c =
    let within = rw (← c.self.view_is) at c.requires in
    let s : Stored = record { rows = c.self.inside.table; drawn = c.self.inside.drawn } in
    rw (c.in_ok-put_rule.ensures.ok, c.at_mut-entry.ensures.value, c.next_version-version.ensures, ← c.self.view_is)
    (defines s c.args.index (put_rule left_of c.args.kind c.args.rule (entry_at c.args.index s)) (put_rule left_side c.args.kind (plain_rule c.args.rule)) within c.at_mut-entry.ensures.distinct (put_rule_plain c.args.kind c.args.rule (entry_at c.args.index s)))
