use Rattle.std.proofs.Common.{◌∷◌, [], List, false, Ok, sym, ap, ◌∙◌, subst}
use Rattle.std.specs.Prelude.{codes}
use Rattle.wl_expr.specs.Stamped.{Stamped, plain}
use Rattle.wl_expr.specs.Tree.{Tree}
use Rattle.wl_semantics.specs.Definitions.{limset}
use Rattle.wl_state.specs.Played.{Plays, trees}
use Rattle.wl_semantics.specs.Prog.{message}
use Rattle.wl_state.proofs.RowParts.{if_ok_more}
use Rattle.wl_state.proofs.EntryRowParts.{clear_refused, clear_limit, clear_plain}
use Rattle.wl_state.proofs.evaluator.Evaluator.clear_one.Goals as goal

pub returns-then-is_protected-clause-played : goal.returns-then-is_protected-clause-played
returns-then-is_protected-clause-played g c =
    let x = c.args.name.now in
    let k1 = c.is_protected.new.self in
    let k2 = c.issue.new.self in
    if_ok_more c.issue.result _ _
    (λ u m. clear_refused c.args.all x c.args.self.now k1 k2 c.in_ok-is_protected.is_protected c.in_ok-is_protected.ensures.played c.if-is_protected.true
    (subst (λ (us : List Tree). Plays (message (codes "Set") (codes "wrsym") us) k1 (Ok tt) k2 false) (ap trees c.from_ref.ensures.value ∙ ap (λ t. t ∷ []) c.requires.named) m))
    c.issue.ensures.played

pub returns-then-is_limit-clause-played : goal.returns-then-is_limit-clause-played
returns-then-is_limit-clause-played g c =
    let x = c.args.name.now in
    let k1 = c.is_protected.new.self in
    let k2 = c.refuse_limit.new.self in
    if_ok_more c.refuse_limit.result _ _
    (λ u m. clear_limit c.args.all x c.args.self.now k1 k2 c.in_ok-is_protected.is_protected c.in_ok-is_protected.ensures.played c.if-is_protected.false (sym c.is_limit.ensures ∙ c.if-is_limit.true)
    (subst (λ (v : Stamped). Plays (limset x (plain v)) k1 (Ok tt) k2 false) c.in_ok-null.ensures m))
    c.refuse_limit.ensures.played

pub returns-clause-played : goal.returns-clause-played
returns-clause-played g c =
    if_ok_more c.clear_entry.result _ _
    (λ u m. clear_plain c.args.all c.args.name.now c.args.self.now c.is_protected.new.self c.clear_entry.new.self c.in_ok-is_protected.is_protected c.in_ok-is_protected.ensures.played c.if-is_protected.false (sym c.is_limit.ensures ∙ c.if-is_limit.false) m)
    c.clear_entry.ensures.played
