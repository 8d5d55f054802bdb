use Rattle.std.proofs.Common.{◌∷◌, [], List, true, false, Ok, ap, ◌∙◌, subst}
use Rattle.std.specs.Prelude.{codes}
use Rattle.wl_expr.specs.Stamped.{plain}
use Rattle.wl_expr.specs.Tree.{Tree}
use Rattle.wl_state.specs.LocalNames.{name_in}
use Rattle.wl_state.specs.Played.{Plays, trees}
use Rattle.wl_semantics.specs.Prog.{message}
use Rattle.wl_state.proofs.RowParts.{if_ok_more}
use Rattle.wl_state.proofs.Rows.{later}
use Rattle.wl_state.proofs.ScopingParts.{numbered_plays}
use Rattle.wl_state.proofs.evaluator.Evaluator.set_numbered.Goals as goal

pub returns-then-is_protected-clause-played : goal.returns-then-is_protected-clause-played
returns-then-is_protected-clause-played g c =
    let k1 = c.is_protected.new.self in
    let k2 = c.issue.new.self in
    if_ok_more c.issue.result _ _
    (λ u m. numbered_plays (name_in (plain c.args.name.now)) _ (plain c.args.value.now) c.args.self.now k1 k2 c.in_ok-is_protected.is_protected true c.name_of.ensures c.if-is_protected.true c.in_ok-is_protected.ensures.played
    (subst (λ (us : List Tree). Plays (message (codes "Set") (codes "wrsym") us) k1 (Ok tt) k2 false) (ap trees c.from_ref.ensures.value ∙ ap (λ (t : Tree). t ∷ []) c.requires.symbol) m))
    c.issue.ensures.played

pub set_own-requires-clause-name : goal.set_own-requires-clause-name
set_own-requires-clause-name g c = later c.in_ok-is_protected.ensures.played c.args.name.now c.requires.name

pub set_own-requires-clause-value : goal.set_own-requires-clause-value
set_own-requires-clause-value g c = later c.in_ok-is_protected.ensures.played c.args.value.now c.requires.value

pub returns-clause-played : goal.returns-clause-played
returns-clause-played g c =
    if_ok_more c.set_own.result _ _
    (λ u m. numbered_plays (name_in (plain c.args.name.now)) _ (plain c.args.value.now) c.args.self.now c.is_protected.new.self c.set_own.new.self c.in_ok-is_protected.is_protected false c.name_of.ensures c.if-is_protected.false c.in_ok-is_protected.ensures.played m)
    c.set_own.ensures.played
