use Rattle.std.proofs.Common.{sym, refl, subst, Ok, None, false}
use Rattle.wl_rules.specs.Entries as entries
use Rattle.wl_rules.specs.Entries.{left_side}
use Rattle.wl_rules.specs.StampedRules.{plain_rule}
use Rattle.wl_rules.specs.Stored.{entry_at}
use Rattle.wl_semantics.specs.Effects.{acted}
use Rattle.wl_state.specs.Played.{Plays}
use Rattle.wl_semantics.specs.Prog as prog
use Rattle.wl_state.proofs.Changing.{change_done}
use Rattle.wl_state.proofs.Stores.{rules_grow}
use Rattle.wl_state.proofs.Placed.{indexed_there, changes}
use Rattle.wl_state.proofs.evaluator.Evaluator.give_rules.Goals as goal

pub returns-clause-played : goal.returns-clause-played
unfolding acted
returns-clause-played c =
    let k = c.args.self.now in
    let x = c.args.name.now in
    let w = c.requires.taken in
    let u = c.args.taken in
    let b = c.restore_entry.new.self in
    let r = entries.map_rules plain_rule u.rules in
    let h = c.requires.sound in
    let a = prog.give_rules x r in
    let ch = changes k.store k.store b x u.index (entries.with_rules r) (entries.with_rules u.rules (entry_at u.index k.store)) h.distinct h.drawn (indexed_there k.store x u.index w.index w.name) c.restore_entry.ensures.ok c.restore_entry.ensures.defines in
    subst (λ z. Plays (prog.doing a) k (Ok tt) (record z { log = None }) false) (sym c.set_number.ensures)
    (change_done a k b x u.index (entries.with_rules r) (entries.with_rules u.rules (entry_at u.index k.store)) u.number ch refl h (rules_grow k.store b ch.grows u.rules w.honest) w.limit)
