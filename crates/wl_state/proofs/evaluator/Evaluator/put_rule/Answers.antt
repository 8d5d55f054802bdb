use Rattle.std.proofs.Common.{sym, ap, refl, subst, Ok, None, false, map}
use Rattle.wl_rules.specs.Entries as entries
use Rattle.wl_rules.specs.Entries.{left_side}
use Rattle.wl_rules.specs.StampedRules.{left_of, plain_rule}
use Rattle.wl_rules.specs.Stored.{entry_at, definitions}
use Rattle.wl_semantics.specs.Effects.{acted}
use Rattle.wl_semantics.specs.Eval.{number_in}
use Rattle.wl_state.specs.Honest.{HonestRules}
use Rattle.wl_state.specs.Played.{Plays}
use Rattle.wl_semantics.specs.Prog as prog
use Rattle.wl_state.proofs.Changing.{change_done, unprotected, entry_honest, put_honest, put_limit, limit_small, rules_after, on_ok}
use Rattle.wl_state.proofs.Stores.{rule_grows}
use Rattle.wl_state.proofs.Placed.{indexed, changes}
use Rattle.wl_state.proofs.evaluator.Evaluator.put_rule.Goals as goal

pub unrefused-requires : goal.unrefused-requires
unrefused-requires c q =
    let k = c.args.self.now in
    let e = c.in_ok-index.ensures in
    unprotected k.store c.index_of.new.self c.args.name.now c.in_ok-index.index c.requires.sound.distinct (indexed k.store c.index_of.new.self c.args.name.now c.in_ok-index.index e.index e.met e.made) c.requires.unprotected (c.put_rule.ensures.protected.0 q)

pub renew_number-requires : goal.renew_number-requires
renew_number-requires c =
    let k = c.args.self.now in
    let x = c.args.name.now in
    let s = c.index_of.new.self in
    let e = c.in_ok-index.ensures in
    let i = c.in_ok-index.index in
    let t = indexed k.store s x i e.index e.met e.made in
    let b = c.put_rule.new.self in
    let make = entries.put_rule left_side c.args.kind (plain_rule c.args.rule) in
    let f = entries.put_rule left_of c.args.kind c.args.rule (entry_at i s) in
    let h = c.requires.sound in
    let ch = changes k.store s b x i make f h.distinct h.drawn t (on_ok c.in_ok-unrefused.ensures c.put_rule.ensures.ok) (on_ok c.in_ok-unrefused.ensures c.put_rule.ensures.defines) in
    record {
      index = ch.index;
      small = limit_small x (make (definitions k.store x)).rules.own _ (put_limit k x c.args.kind (plain_rule c.args.rule) _ h c.requires.limits (ap (λ z. number_in z.rules.own) (rules_after k.store b x i make f ch)));
    }

pub returns-clause-played : goal.returns-clause-played
unfolding acted
returns-clause-played c =
    let k = c.args.self.now in
    let x = c.args.name.now in
    let s = c.index_of.new.self in
    let e = c.in_ok-index.ensures in
    let i = c.in_ok-index.index in
    let t = indexed k.store s x i e.index e.met e.made in
    let b = c.put_rule.new.self in
    let make = entries.put_rule left_side c.args.kind (plain_rule c.args.rule) in
    let f = entries.put_rule left_of c.args.kind c.args.rule (entry_at i s) in
    let h = c.requires.sound in
    let n = number_in (map plain_rule (entry_at i b).rules.own) in
    let a = prog.put_rule x c.args.kind (plain_rule c.args.rule) in
    let ch = changes k.store s b x i make f h.distinct h.drawn t (on_ok c.in_ok-unrefused.ensures c.put_rule.ensures.ok) (on_ok c.in_ok-unrefused.ensures c.put_rule.ensures.defines) in
    let rules : HonestRules b f.rules = put_honest b c.args.kind c.args.rule (entry_at i s) (rule_grows k.store b ch.grows c.args.rule c.requires.honest) (entry_honest k.store s b x i t ch.grows h.honest) in
    subst (λ z. Plays (prog.doing a) k (Ok tt) (record z { log = None }) false) (sym c.in_ok-renew_number.ensures.number)
    (change_done a k b x i make f n ch refl h rules (put_limit k x c.args.kind (plain_rule c.args.rule) n h c.requires.limits (ap (λ z. number_in z.rules.own) (rules_after k.store b x i make f ch))))
