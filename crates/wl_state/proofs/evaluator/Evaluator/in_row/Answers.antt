use Rattle.std.proofs.Common.{rules, false, Ok, option_map, subst, sym, ap, ◌∙◌}
use Rattle.std.proofs.lemmas.Int.{to_z-of_z}
use Rattle.std.specs.Int.{w128}
use mir.Val.{SFits}
use Rattle.wl_expr.specs.Stamped.{plain}
use Rattle.wl_semantics.specs.MessageRows as rows
use Rattle.wl_state.specs.Played.{Plays, trees}
use Rattle.wl_semantics.specs.Prog.{found, asking, recall_input}
use Rattle.wl_state.proofs.Playing.{plays_bind, plays_done}
use Rattle.wl_state.proofs.RowParts.{row_stays, row_at}
use Rattle.wl_state.proofs.HistoryRowParts.{in_row-by, row_found}
use Rattle.wl_state.proofs.evaluator.Evaluator.in_row.Goals as goal

pub returns-in_default-clause-played : goal.returns-in_default-clause-played
returns-in_default-clause-played c =
    row_stays _ _ (in_row-by (trees c.args.args.now) ∙ ap (rows.recalled_at recall_input) (sym c.only_int.ensures ∙ c.in_default.is))

pub returns-clause-played : goal.returns-clause-played
returns-clause-played c =
    let n = c.in-Some.n in
    let fits : SFits w128 n = search rules in
    let asked = subst (λ z. Plays (asking (recall_input z)) c.args.self.now (Ok (found (option_map plain c.in_ok-found.found))) c.recall_input.new.self false) (to_z-of_z w128 n fits) c.in_ok-found.ensures.played in
    row_at _ _ c.args.self.now (Ok c.fitting.result) c.recall_input.new.self (in_row-by (trees c.args.args.now) ∙ ap (rows.recalled_at recall_input) (sym (sym c.in-Some.is ∙ c.only_int.ensures)))
    (row_found (rows.recalled (recall_input n)) _ _ c.in_ok-found.found c.fitting.result (plays_bind (asking (recall_input n)) _ asked plays_done) c.in_ok-found.ensures.honest c.fitting.ensures.same c.fitting.ensures.fits)
