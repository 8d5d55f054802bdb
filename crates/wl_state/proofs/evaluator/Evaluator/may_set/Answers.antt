use Rattle.std.proofs.Common.{◌∷◌, [], List, false, Ok, sym, ap, ◌∙◌, subst}
use Rattle.std.specs.Prelude.{codes}
use Rattle.wl_expr.specs.Stamped.{Stamped, plain}
use Rattle.wl_expr.specs.Tree.{Tree}
use Rattle.wl_state.specs.Played.{Plays, trees}
use Rattle.wl_semantics.specs.Prog.{message}
use Rattle.wl_state.proofs.IteratorParts.{allowed, may_not_limit, may_not_protected, may_so}
use Rattle.wl_state.proofs.evaluator.Evaluator.may_set.Goals as goal

pub returns-then-is_protected-clause-played : goal.returns-then-is_protected-clause-played
returns-then-is_protected-clause-played g c =
    let a = c.args in
    let k1 = c.is_protected.new.self in
    let k2 = c.issue.new.self in
    let told = subst (λ (us : List Tree). Plays (message (codes "Set") (codes "wrsym") us) k1 (Ok tt) k2 false) (ap trees c.from_ref.ensures.value ∙ ap (λ (e : Stamped). plain e ∷ []) c.in_ok-subject.ensures) c.in_ok-issue.ensures.played in
    may_not_protected a.name.now (plain a.value.now) a.self.now k1 k2 c.in_ok-is_protected.is_protected c.in_ok-is_protected.ensures.played c.if-is_protected.true told

pub returns-then-refuses-clause-played : goal.returns-then-refuses-clause-played
returns-then-refuses-clause-played g c =
    let a = c.args in
    may_not_limit a.name.now (plain a.value.now) a.self.now c.is_protected.new.self c.refuse_limit.new.self c.in_ok-is_protected.is_protected c.in_ok-is_protected.ensures.played c.if-is_protected.false
    (sym c.limit_refuses-refuses.ensures ∙ c.if-refuses.true) c.in_ok-refuse_limit.ensures.played

pub returns-clause-played : goal.returns-clause-played
returns-clause-played g c =
    let a = c.args in
    let k1 = c.is_protected.new.self in
    may_so a.name.now (plain a.value.now) a.self.now k1 k1 c.in_ok-is_protected.is_protected c.in_ok-is_protected.ensures.played c.if-is_protected.false (sym c.limit_refuses-refuses.ensures ∙ c.if-refuses.false)

pub returns-clause-limits : goal.returns-clause-limits
returns-clause-limits g c e = allowed c.args.name.now (plain c.args.value.now) (sym c.limit_refuses-refuses.ensures ∙ c.if-refuses.false)
