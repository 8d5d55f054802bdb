use Rattle.std.proofs.Common.{[], Some, Ok, false, codes, sym, subst}
use Rattle.wl_expr.specs.Stamped.{Stamped, plain}
use Rattle.wl_expr.specs.Words.{overflow_form}
use Rattle.wl_semantics.specs.Control as control
use Rattle.wl_state.specs.Played.{Plays}
use Rattle.wl_semantics.specs.Prog.{message, result}
use Rattle.wl_state.proofs.Playing.{plays_bind, plays_done}
use Rattle.wl_state.proofs.RowParts.{if_ok_more}
use Rattle.wl_state.proofs.evaluator.Evaluator.overflow.Goals as goal

pub returns-clause-played : goal.returns-clause-played
returns-clause-played g c =
    let k = c.args.self.now in
    let k1 = c.issue.new.self in
    let told = plays_bind (message (codes "General") (codes "ovfl") []) (λ _. result overflow_form) c.in_ok-issue.ensures.played plays_done in
    if_ok_more c.overflow_made.result _ _ (λ e q. subst (λ (z : Stamped). Plays control.overflow k (Ok (Some (plain z))) k1 false) (sym q) told) c.overflow_made.ensures
