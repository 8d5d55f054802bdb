use Rattle.std.proofs.Common.{Some, sym, ap}
use Rattle.std.proofs.lemmas.Result.{err_from_is_err_and}
use Rattle.wl_semantics.specs.Prog.{sized, result}
use Rattle.wl_state.specs.Played.{Honest, built, found_tree}
use Rattle.wl_state.proofs.Playing.{plays_bind, plays_done_is}
use Rattle.wl_state.proofs.Rows.{played_exit, later}
use Rattle.wl_state.proofs.RowParts.{made_is}
use Rattle.wl_state.proofs.evaluator.Evaluator.given.Goals as goal

pub returns-in_err-e-clause-played : goal.returns-in_err-e-clause-played
returns-in_err-e-clause-played g c t m =
    let p = err_from_is_err_and c.from_residual.result c.from_residual.ensures.1 in
    played_exit (built t) found_tree (sized t) (λ _. result t) _ _ _ _ _ p.1 p.2 (c.in_err-e.ensures.played t m)

pub returns-clause-played : goal.returns-clause-played
returns-clause-played g c t m =
    let f = c.in_ok-e.ensures.played t m in
    let e = c.in_ok-e.e in
    (plays_bind (sized t) _ f.0 (plays_done_is (ap Some (sym f.1))), later f.0 e (made_is (Honest c.args.self.now) c.args.made e c.in_ok-e.ensures.made c.requires.honest))
