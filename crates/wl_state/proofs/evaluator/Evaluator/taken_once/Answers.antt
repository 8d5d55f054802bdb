use Rattle.std.proofs.Common.{Some, Ok, Option, false, sym, subst}
use Rattle.wl_semantics.specs.Control.{taken_once}
use Rattle.wl_state.specs.Played.{Plays}
use Rattle.wl_state.specs.Replies.{AreTaken, plain_taken, set_aside}
use Rattle.wl_state.specs.declared.evaluator.Taken.{Taken}
use Rattle.wl_state.proofs.IteratorParts.{still_unprotected, taken_out}
use Rattle.wl_state.proofs.Playing.{plays_done}
use Rattle.wl_state.proofs.RowParts.{if_ok_more}
use Rattle.wl_state.proofs.evaluator.Evaluator.taken_once.Goals as goal

pub returns-in-Some-clause-played : goal.returns-in-Some-clause-played
returns-in-Some-clause-played c =
    let x = c.args.name.now in
    let k = c.args.self.now in
    subst (λ (z : Option Taken). Plays (taken_once x (set_aside (Some x) z)) k (Ok (plain_taken x c.in-Some.taken)) k false) (sym c.in-Some.is) plays_done

pub returns-in-Some-clause-taken : goal.returns-in-Some-clause-taken
returns-in-Some-clause-taken c = subst (AreTaken c.args.self.now (Some c.args.name.now)) c.in-Some.is c.requires.taken

pub returns-in-None-clause-played : goal.returns-in-None-clause-played
returns-in-None-clause-played c =
    let x = c.args.name.now in
    let k = c.args.self.now in
    if_ok_more c.take_rules.result _ _ (λ t m. subst (λ (z : Option Taken). Plays (taken_once x (set_aside (Some x) z)) k (Ok (plain_taken x t)) c.take_rules.new.self false) (sym c.in-None.is) (taken_out x t m)) c.take_rules.ensures.played

pub returns-in-None-clause-unprotected : goal.returns-in-None-clause-unprotected
returns-in-None-clause-unprotected c = if_ok_more c.take_rules.result _ _ (λ t m. still_unprotected c.args.name.now m c.requires.unprotected) c.take_rules.ensures.played
