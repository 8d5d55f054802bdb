use Rattle.std.proofs.Common.{◌≡◌, ◌+◌, ◌∷◌, [], None, Ok, false, map, codes, sym, ap, ap₂, ◌∙◌, subst, arith}
use Rattle.wl_desk.specs.Desk.{Desk, issued, with_quiets}
use Rattle.wl_expr.specs.Stamped.{plain}
use Rattle.wl_expr.specs.Words.{natural}
use Rattle.wl_rules.specs.Stored.{definitions}
use Rattle.wl_state.specs.Endings.{quiet_end}
use Rattle.wl_semantics.specs.LeftSides.{recursion_limit}
use Rattle.wl_state.specs.Played.{Plays}
use Rattle.wl_semantics.specs.State.{Aborted}
use Rattle.wl_state.proofs.Hushing.{deep_quietly, told_quiets}
use Rattle.wl_state.proofs.Ticking.{ticked_at_most}
use Rattle.wl_state.proofs.evaluator.Evaluator.too_deep_quietly.Goals as goal

pub quiet-requires : goal.quiet-requires
quiet-requires g c = omega (arith, c.requires.sound.quiets, c.requires.sound.deepest)

pub unquiet-requires : goal.unquiet-requires
unquiet-requires g c =
    let k = c.args.self.now in
    let e : c.issue.new.self ≡ issued (definitions k.store) recursion_limit (codes "reclim") (natural k.recursion ∷ []) (with_quiets (k.desk.quiets + 1) k.desk) =
    c.in_ok-issue.ensures.ok
    ∙ ap₂ (λ us (d : Desk). issued (definitions k.store) recursion_limit (codes "reclim") us d) (ap (map plain) c.from_ref.ensures.value ∙ ap (λ t. t ∷ []) c.in_ok-limit.ensures) c.quiet.ensures in
    omega (arith, told_quiets k c.issue.new.self e)

pub returns-clause-played : goal.returns-clause-played
returns-clause-played g c = λ x h.
    let k = c.args.self.now in
    let e : c.issue.new.self ≡ issued (definitions k.store) recursion_limit (codes "reclim") (natural k.recursion ∷ []) (with_quiets (k.desk.quiets + 1) k.desk) =
    c.in_ok-issue.ensures.ok
    ∙ ap₂ (λ us (d : Desk). issued (definitions k.store) recursion_limit (codes "reclim") us d) (ap (map plain) c.from_ref.ensures.value ∙ ap (λ t. t ∷ []) c.in_ok-limit.ensures) c.quiet.ensures in
    subst (λ (d : Desk). Plays (quiet_end (plain x)) k (Ok Aborted) (record k { desk = d; log = None }) false) (sym c.unquiet.ensures) (deep_quietly k c.issue.new.self e c.requires.sound c.requires.deep x h)

pub returns-in_err-issue-clause-ticks : goal.returns-in_err-issue-clause-ticks
returns-in_err-issue-clause-ticks g c = ticked_at_most 2 _ _ c.issue.ensures.ticks

pub returns-clause-ticks : goal.returns-clause-ticks
returns-clause-ticks g c = ticked_at_most 2 _ _ c.issue.ensures.ticks
