use Rattle.wl_expr.specs.Stamped.{plain}
use Rattle.wl_rules.specs.Entries.{remove_rule, left_side}
use Rattle.wl_rules.specs.StampedRules.{left_of}
use Rattle.wl_rules.specs.Stored.{Stored, entry_at}
use Rattle.wl_rules.proofs.Choices.{on_true}
use Rattle.wl_rules.proofs.Plain.{remove_rule_plain}
use Rattle.wl_rules.proofs.Rows.{defines}
use Rattle.wl_rules.proofs.store.Store.remove_rule.Goals as goal

pub returns-clause-defines : goal.returns-clause-defines
returns-clause-defines c =
    let within = rw (← c.self.view_is) at c.requires in
    let taken = on_true c.in_ok-remove_rule.field-0 c.if-not-branch.false c.in_ok-remove_rule.ensures.taken in
    let s : Stored = record { rows = c.self.inside.table; drawn = c.self.inside.drawn } in
    let l = plain c.args.left.now in
    rw (taken, c.at_mut-entry.ensures.value, c.next_version-version.ensures, ← c.self.view_is)
    (defines s c.args.index (remove_rule left_of c.args.kind l (entry_at c.args.index s)) (remove_rule left_side c.args.kind l) within c.at_mut-entry.ensures.distinct (remove_rule_plain c.args.kind l (entry_at c.args.index s)))
