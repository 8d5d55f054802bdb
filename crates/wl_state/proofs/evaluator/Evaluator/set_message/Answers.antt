use Rattle.std.proofs.Common.{◌∷◌, [], List, true, false, Ok, sym, ap, ◌∙◌, subst}
use Rattle.std.specs.Prelude.{codes}
use Rattle.wl_expr.specs.Stamped.{Stamped, plain}
use Rattle.wl_expr.specs.Tree.{Tree}
use Rattle.wl_semantics.specs.Definitions.{limset}
use Rattle.wl_state.specs.Played.{Plays, trees}
use Rattle.wl_semantics.specs.Prog.{message}
use Rattle.wl_state.proofs.RowParts.{if_ok_more}
use Rattle.wl_state.proofs.DefiningParts.{text_refused, text_by_limit}
use Rattle.wl_state.proofs.evaluator.Evaluator.set_message.Goals as goal

pub returns-then-is_protected-clause-played : goal.returns-then-is_protected-clause-played
returns-then-is_protected-clause-played g c =
    let a = c.args in
    let k1 = c.is_protected.new.self in
    let k2 = c.issue.new.self in
    if_ok_more c.issue.result _ _
    (λ u m. text_refused a.name.now a.tag.now a.text.now a.self.now k1 k2 c.in_ok-is_protected.is_protected c.in_ok-is_protected.ensures.played c.if-is_protected.true
    (subst (λ (us : List Tree). Plays (message (codes "Set") (codes "wrsym") us) k1 (Ok tt) k2 false) (ap trees c.from_ref.ensures.value ∙ ap (λ (e : Stamped). plain e ∷ []) c.in_ok-subject.ensures) m))
    c.issue.ensures.played

pub returns-then-is_limit-clause-played : goal.returns-then-is_limit-clause-played
returns-then-is_limit-clause-played g c =
    let a = c.args in
    let k1 = c.is_protected.new.self in
    let k2 = c.refuse_limit.new.self in
    if_ok_more c.refuse_limit.result _ _
    (λ u m. text_by_limit a.name.now a.tag.now a.text.now a.self.now k1 k2 c.in_ok-is_protected.is_protected c.in_ok-is_protected.ensures.played true c.if-is_protected.false (sym c.is_limit.ensures ∙ c.if-is_limit.true)
    (subst (λ (t : Tree). Plays (limset a.name.now t) k1 (Ok tt) k2 false) c.requires.value m))
    c.refuse_limit.ensures.played

pub returns-clause-played : goal.returns-clause-played
returns-clause-played g c =
    let a = c.args in
    if_ok_more c.put_message.result _ _
    (λ u m. text_by_limit a.name.now a.tag.now a.text.now a.self.now c.is_protected.new.self c.put_message.new.self c.in_ok-is_protected.is_protected c.in_ok-is_protected.ensures.played false c.if-is_protected.false (sym c.is_limit.ensures ∙ c.if-is_limit.false) m)
    c.put_message.ensures.played
