use Rattle.std.proofs.Common.{◌≡◌, [], sym, ap, ◌∙◌, refl, subst, Ok, None, false, arith}
use Rattle.wl_expr.specs.Words.{Name}
use Rattle.wl_rules.specs.Entries as entries
use Rattle.wl_rules.specs.Entries.{left_side}
use Rattle.wl_rules.specs.StampedRules.{plain_rule}
use Rattle.wl_rules.specs.Stored.{entry_at, definitions}
use Rattle.wl_semantics.specs.Effects.{acted}
use Rattle.wl_state.specs.Honest.{HonestRules}
use Rattle.wl_state.specs.Played.{Plays, IsTaken, IsLimit, with_number}
use Rattle.wl_semantics.specs.Prog as prog
use Rattle.wl_state.proofs.Changing.{change_asked, unprotected, entry_is, entry_honest, no_rules_honest, taken_limit, on_ok, if_ok}
use Rattle.wl_state.proofs.Placed.{indexed, changes}
use Rattle.wl_state.proofs.evaluator.Evaluator.take_rules.Goals as goal

pub unrefused-requires : goal.unrefused-requires
unrefused-requires c q =
    let k = c.args.self.now in
    let e = c.in_ok-index.ensures in
    unprotected k.store c.index_of.new.self c.args.name.now c.in_ok-index.index c.requires.sound.distinct (indexed k.store c.index_of.new.self c.args.name.now c.in_ok-index.index e.index e.met e.made) c.requires.unprotected (c.swap_entry.ensures.protected.0 q)

pub returns-clause-played : goal.returns-clause-played
unfolding acted
returns-clause-played c =
    let k = c.args.self.now in
    let x = c.args.name.now in
    let s = c.index_of.new.self in
    let e = c.in_ok-index.ensures in
    let i = c.in_ok-index.index in
    let t = indexed k.store s x i e.index e.met e.made in
    let b = c.swap_entry.new.self in
    let f = entries.with_rules entries.no_rules (entry_at i s) in
    let h = c.requires.sound in
    let u = c.in_ok-rules.ensures in
    let ch = changes k.store s b x i (entries.with_rules entries.no_rules) f h.distinct h.drawn t (on_ok u c.swap_entry.ensures.ok) (on_ok u c.swap_entry.ensures.defines) in
    let saved : c.in_ok-rules.rules ≡ (entry_at i s).rules = if_ok _ u c.swap_entry.ensures.saved in
    let plain_saved : entries.map_rules plain_rule c.in_ok-rules.rules ≡ (definitions k.store x).rules = ap (entries.map_rules plain_rule) saved ∙ ap (λ z. z.rules) (entry_is k.store s x i h.distinct t) in
    let a = prog.take_rules x in
    subst (λ z. Plays (prog.asking a) k (Ok (prog.rules (entries.map_rules plain_rule c.in_ok-rules.rules))) (record z { log = None }) false) (sym c.set_number.ensures)
    (subst (λ z. Plays (prog.asking a) k (Ok (prog.rules z)) (record (with_number x 0 (record k { store = b })) { log = None }) false) (sym plain_saved)
    (change_asked a k b x i (entries.with_rules entries.no_rules) f 0 ch refl h (no_rules_honest b) no_number))
  where
    no_number : {x : Name} → IsLimit x [] 0
    no_number = record { recursion = λ s. (refl, omega arith); iteration = λ s. (refl, omega arith) }

pub returns-clause-taken : goal.returns-clause-taken
returns-clause-taken c =
    let k = c.args.self.now in
    let x = c.args.name.now in
    let s = c.index_of.new.self in
    let e = c.in_ok-index.ensures in
    let i = c.in_ok-index.index in
    let t = indexed k.store s x i e.index e.met e.made in
    let b = c.swap_entry.new.self in
    let f = entries.with_rules entries.no_rules (entry_at i s) in
    let h = c.requires.sound in
    let u = c.in_ok-rules.ensures in
    let ch = changes k.store s b x i (entries.with_rules entries.no_rules) f h.distinct h.drawn t (on_ok u c.swap_entry.ensures.ok) (on_ok u c.swap_entry.ensures.defines) in
    let saved : c.in_ok-rules.rules ≡ (entry_at i s).rules = if_ok _ u c.swap_entry.ensures.saved in
    let plain_saved : entries.map_rules plain_rule c.in_ok-rules.rules ≡ (definitions k.store x).rules = ap (entries.map_rules plain_rule) saved ∙ ap (λ z. z.rules) (entry_is k.store s x i h.distinct t) in
    let n = c.number_of-number.result in
    subst (λ z. IsTaken (record z { log = None }) x (record { index = i; rules = c.in_ok-rules.rules; number = n })) (sym c.set_number.ensures) (record {
      index = ch.index;
      name = ch.name;
      honest = subst (HonestRules b) (sym saved) (entry_honest k.store s b x i t ch.grows h.honest);
      limit = subst (λ z. IsLimit x z n) (sym (ap (λ r. r.own) plain_saved)) (taken_limit k x n h c.number_of-number.ensures.recursion c.number_of-number.ensures.iteration);
    })
