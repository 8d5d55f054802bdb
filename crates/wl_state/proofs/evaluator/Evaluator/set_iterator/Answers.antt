use Rattle.std.proofs.Common.{Some, Ok, Option, false, sym, subst}
use Rattle.wl_expr.specs.Stamped.{Stamped, plain}
use Rattle.wl_rules.specs.declared.rule.RuleKind.TheVariants.{Own}
use Rattle.wl_semantics.specs.Control.{taken_once}
use Rattle.wl_state.specs.Honest.{HonestIn}
use Rattle.wl_state.specs.Played.{Plays}
use Rattle.wl_semantics.specs.Prog.{doing, put_rule}
use Rattle.wl_state.specs.Replies.{AreTaken, plain_taken, set_aside}
use Rattle.wl_state.specs.declared.evaluator.Taken.{Taken}
use Rattle.wl_state.proofs.IteratorParts.{are_later, sets, sets_not}
use Rattle.wl_state.proofs.RowParts.{if_ok_more}
use Rattle.wl_state.proofs.Rows.{later}
use Rattle.wl_state.proofs.evaluator.Evaluator.set_iterator.Goals as goal

pub returns-then-not-may-clause-played : goal.returns-then-not-may-clause-played
returns-then-not-may-clause-played g c =
    let x = c.args.name.now in
    sets_not x (plain c.args.value) (set_aside (Some x) c.args.taken.now) c.in_ok-may.may c.in_ok-may.ensures.played c.if-not-may.true

pub returns-then-not-may-clause-taken : goal.returns-then-not-may-clause-taken
returns-then-not-may-clause-taken g c = are_later c.in_ok-may.ensures.played (Some c.args.name.now) c.args.taken.now c.requires.taken

pub taken_once-requires-clause-taken : goal.taken_once-requires-clause-taken
taken_once-requires-clause-taken g c =
    let x = c.args.name.now in
    subst (AreTaken c.may_set.new.self (Some x)) (sym c.replace-before.ensures.value) (are_later c.in_ok-may.ensures.played (Some x) c.args.taken.now c.requires.taken)

pub put_rule-requires-clause-honest : goal.put_rule-requires-clause-honest
put_rule-requires-clause-honest g c =
    (subst (HonestIn c.taken_once.new.self.store) (sym c.in_ok-left.ensures) tt, later c.in_ok-held.ensures.played _ (later c.in_ok-may.ensures.played _ c.requires.honest))

pub returns-clause-played : goal.returns-clause-played
returns-clause-played g c =
    let x = c.args.name.now in
    let v = plain c.args.value in
    let t = c.in_ok-held.held in
    let k1 = c.may_set.new.self in
    let k2 = c.taken_once.new.self in
    let k3 = c.put_rule.new.self in
    let once = subst (λ (z : Option Taken). Plays (taken_once x (set_aside (Some x) z)) k1 (Ok (plain_taken x t)) k2 false) c.replace-before.ensures.value c.in_ok-held.ensures.played in
    if_ok_more c.put_rule.result _ _ (λ u m. sets x v (set_aside (Some x) c.args.taken.now) c.in_ok-may.may c.in_ok-may.ensures.played (plain_taken x t) c.if-not-may.false once
    (subst (λ (z : Stamped). Plays (doing (put_rule x Own (record { left = plain z; body = v }))) k2 (Ok tt) k3 false) c.in_ok-left.ensures m)) c.put_rule.ensures.played

pub returns-clause-taken : goal.returns-clause-taken
returns-clause-taken g c = if_ok_more c.put_rule.result _ _ (λ u m. are_later m (Some c.args.name.now) (Some c.in_ok-held.held) c.in_ok-held.ensures.taken) c.put_rule.ensures.played
