use Rattle.std.proofs.Common.{◌∷◌, [], List, false, Ok, ap₂, subst}
use Rattle.std.specs.Prelude.{codes}
use Rattle.wl_expr.specs.Stamped.{Stamped, plain}
use Rattle.wl_expr.specs.Tree.{Tree}
use Rattle.wl_state.specs.Played.{Plays}
use Rattle.wl_semantics.specs.Prog.{message}
use Rattle.wl_state.proofs.Playing.{plays_bind, plays_done}
use Rattle.wl_state.proofs.evaluator.Evaluator.refused_tag.Goals as goal

pub returns-clause-played : goal.returns-clause-played
returns-clause-played g c =
    let told = subst (λ (us : List Tree). Plays (message (codes "TagSet") (codes "tagnf") us) c.args.self.now (Ok tt) c.issue.new.self false) (ap₂ (λ (a b : Stamped). plain a ∷ plain b ∷ []) c.in_ok-subject.ensures c.in_ok-copy.ensures) c.in_ok-issue.ensures.played in
    plays_bind (message (codes "TagSet") (codes "tagnf") _) _ told plays_done
