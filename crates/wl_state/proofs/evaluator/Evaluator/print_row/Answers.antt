use Rattle.std.proofs.Common.{Ok, false, ◌∙◌, subst}
use Rattle.wl_semantics.specs.MessageRows as rows
use Rattle.wl_state.specs.Played.{Plays, trees}
use Rattle.wl_semantics.specs.Prog.{doing, show}
use Rattle.wl_state.proofs.Playing.{plays_bind, plays_done}
use Rattle.wl_state.proofs.RowParts.{row_null}
use Rattle.wl_state.proofs.evaluator.Evaluator.print_row.Goals as goal

pub returns-clause-played : goal.returns-clause-played
returns-clause-played c =
    let s = rows.joined (trees c.args.args.now) in
    let k1 = c.show.new.self in
    let shown = subst (λ z. Plays (doing (show z)) c.args.self.now (Ok tt) k1 false) (c.as_str.ensures.value ∙ c.in_ok-text.ensures) c.in_ok-show.ensures.played in
    row_null _ _ _ c.in_ok-null.field-0 c.in_ok-null.ensures (plays_bind (doing (show s)) _ shown plays_done)
