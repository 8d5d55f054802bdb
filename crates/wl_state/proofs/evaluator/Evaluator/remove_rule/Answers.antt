use Rattle.std.proofs.Common.{◌≡◌, sym, ap, ◌∙◌, refl, true≢false}
use Rattle.wl_expr.specs.Stamped.{plain}
use Rattle.wl_rules.specs.Entries as entries
use Rattle.wl_rules.specs.Entries.{left_side, of_kind}
use Rattle.wl_rules.specs.RuleLists.{has_left}
use Rattle.wl_rules.specs.StampedRules.{left_of}
use Rattle.wl_rules.specs.Stored.{Stored, entry_at, definitions}
use Rattle.wl_semantics.specs.Effects.{acted}
use Rattle.wl_semantics.specs.Prog as prog
use Rattle.wl_state.specs.declared.evaluator.Evaluator.{Evaluator}
use Rattle.wl_state.proofs.Changing.{change_other, unprotected, removed_honest, if_ok, if_true, if_false, has_left_plain}
use Rattle.wl_state.proofs.Moves.{looked_same, rules_at}
use Rattle.wl_state.proofs.Placed.{indexed_there}
use Rattle.wl_state.proofs.evaluator.Evaluator.remove_rule.Goals as goal

pub unrefused-requires : goal.unrefused-requires
unrefused-requires g c q =
    let k = c.args.self.now in
    let m = c.look.new.self in
    let x = c.args.name.now in
    let l = c.in_ok-index.ensures.played in
    unprotected m.store m.store x c.in_ok-index.index (l.plays.sound c.requires.sound).distinct (indexed_there m.store x c.in_ok-index.index l.index l.name)
    (ap (λ f. (f x).attributes.protected) (looked_same x k m l.plays) ∙ c.requires.unprotected) (c.remove_rule.ensures.protected.0 q)

pub returns-then-not-found-clause-played : goal.returns-then-not-found-clause-played
returns-then-not-found-clause-played g c =
    let m = c.look.new.self in
    let x = c.args.name.now in
    let i = c.in_ok-index.index in
    let l = c.in_ok-index.ensures.played in
    let t = indexed_there m.store x i l.index l.name in
    let h = l.plays.sound c.requires.sound in
    let u = c.in_ok-found.ensures in
    let left = plain c.args.left.now in
    let kind = c.args.kind in
    let found : c.in_ok-found.found ≡ has_left left_side left (of_kind kind (definitions c.args.self.now.store x).rules) =
    if_ok _ u c.remove_rule.ensures.found ∙ has_left_plain left (of_kind kind (entry_at i m.store).rules)
    ∙ ap (has_left left_side left) (rules_at m.store i x kind l.index h.distinct l.name ∙ ap (λ f. of_kind kind (f x).rules) (looked_same x c.args.self.now m l.plays)) in
    record {
      between = m;
      looks = l.plays;
      found = sym c.if-not-found.true ∙ found;
      taken = λ q. absurd (true≢false (sym q));
      none = λ _. ap (λ (z : Stored). let k : Evaluator = record m { store = z } in k) (if_false c.if-not-found.true (if_ok _ u c.remove_rule.ensures.none));
    }

pub returns-clause-played : goal.returns-clause-played
unfolding acted
returns-clause-played g c =
    let m = c.look.new.self in
    let x = c.args.name.now in
    let i = c.in_ok-index.index in
    let l = c.in_ok-index.ensures.played in
    let t = indexed_there m.store x i l.index l.name in
    let h = l.plays.sound c.requires.sound in
    let u = c.in_ok-found.ensures in
    let left = plain c.args.left.now in
    let kind = c.args.kind in
    let found : c.in_ok-found.found ≡ has_left left_side left (of_kind kind (definitions c.args.self.now.store x).rules) =
    if_ok _ u c.remove_rule.ensures.found ∙ has_left_plain left (of_kind kind (entry_at i m.store).rules)
    ∙ ap (has_left left_side left) (rules_at m.store i x kind l.index h.distinct l.name ∙ ap (λ f. of_kind kind (f x).rules) (looked_same x c.args.self.now m l.plays)) in
    record {
      between = m;
      looks = l.plays;
      found = sym c.if-not-found.false ∙ found;
      taken = λ q.
          change_other (prog.remove_rule x kind left) m m.store c.remove_rule.new.self x i (entries.remove_rule left_side kind left) (entries.remove_rule left_of kind left (entry_at i m.store)) h c.requires.limits t
          (if_true c.if-not-found.false (if_ok _ u c.remove_rule.ensures.taken)) (if_true c.if-not-found.false (if_ok _ u c.remove_rule.ensures.defines)) refl (removed_honest c.remove_rule.new.self kind left (entry_at i m.store));
      none = λ q. absurd (true≢false q);
    }
