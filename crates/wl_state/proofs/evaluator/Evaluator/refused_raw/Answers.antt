use Rattle.std.proofs.Common.{◌∷◌, [], List, false, Ok, ap, ◌∙◌, subst}
use Rattle.std.specs.Prelude.{codes}
use Rattle.wl_expr.specs.Tree.{Tree}
use Rattle.wl_state.specs.Played.{Plays, trees}
use Rattle.wl_semantics.specs.Prog.{message}
use Rattle.wl_state.proofs.Playing.{plays_bind, plays_done}
use Rattle.wl_state.proofs.evaluator.Evaluator.refused_raw.Goals as goal

pub returns-clause-played : goal.returns-clause-played
returns-clause-played g c =
    let told = subst (λ (us : List Tree). Plays (message (codes "Set") (codes "setraw") us) c.args.self.now (Ok tt) c.issue.new.self false) (ap trees c.from_ref.ensures.value ∙ ap (λ (t : Tree). t ∷ []) c.leftmost-first.ensures) c.in_ok-issue.ensures.played in
    plays_bind (message (codes "Set") (codes "setraw") _) _ told plays_done
