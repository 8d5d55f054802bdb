use Rattle.std.proofs.Common.{false, Ok, ◌∙◌, subst}
use Rattle.wl_rules.specs.Entries.{map_rules}
use Rattle.wl_rules.specs.StampedRules.{plain_rule}
use Rattle.wl_state.specs.Played.{Plays}
use Rattle.wl_semantics.specs.Prog as prog
use Rattle.wl_state.specs.declared.scoping.Held.{Held}
use Rattle.wl_state.proofs.Rows.{leads_on}
use Rattle.wl_state.proofs.ScopingParts.{give_all_step, give_all_over, held_init, held_last, held_later, none_held}
use Rattle.wl_state.proofs.evaluator.Evaluator.give_all.Goals as goal

pub give_rules-requires : goal.give_rules-requires
give_rules-requires c =
    let l = c.names in
    let h : Held = c.in-Some.field-0 in
    record { sound = l.invariant.sound; taken = held_last l.self c.pop.new.self.items h _ c.in-Some.ensures.items c.name_of.ensures l.invariant.held }

pub names-preserved : goal.names-preserved
names-preserved c =
    let l = c.names in
    let k1 = c.give_rules.new.self in
    let h : Held = c.in-Some.field-0 in
    let p = subst (λ z. Plays (prog.doing (prog.give_rules z (map_rules plain_rule h.taken.rules))) l.self (Ok tt) k1 false) c.name_of.ensures c.give_rules.ensures.played in
    record {
      leads = leads_on l.invariant.leads (give_all_step c.pop.new.self.items _ h l.self k1 c.in-Some.ensures.items p);
      sound = p.sound l.invariant.sound;
      held = held_later p c.pop.new.self.items (held_init l.self c.pop.new.self.items h _ c.in-Some.ensures.items l.invariant.held);
      kept = c.give_rules.ensures.kept ∙ l.invariant.kept;
    }

pub returns-in_default-clause-played : goal.returns-in_default-clause-played
returns-in_default-clause-played c = c.names.invariant.leads _ _ _ (give_all_over c.names.left.items c.names.self (none_held c.names.left.items c.pop.new.self.items _ c.in_default.ensures.items c.in_default.ensures.rest c.in_default.ensures.cases.0))
