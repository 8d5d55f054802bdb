use Rattle.std.proofs.Common.{Bool, ◌&&◌, not, sym, ap, ap₂, ◌∙◌}
use Rattle.wl_expr.specs.Stamped.{plain}
use Rattle.wl_state.proofs.DefiningParts.{told_protected, told_limit, not_refused}
use Rattle.wl_state.proofs.evaluator.Evaluator.forbids.Goals as goal

pub returns-then-is_protected-clause-played : goal.returns-then-is_protected-clause-played
returns-then-is_protected-clause-played g c =
    let a = c.args in
    told_protected a.kind a.name.now (plain a.core.now) (plain a.value.now) a.allowed a.self.now c.is_protected.new.self c.tell_protected.new.self c.in_ok-is_protected.is_protected c.in_ok-is_protected.ensures.played c.if-is_protected.true
    c.in_ok-tell_protected.ensures.played

pub returns-then-not-allowed-clause-played : goal.returns-then-not-allowed-clause-played
returns-then-not-allowed-clause-played g c =
    let a = c.args in
    told_limit a.kind a.name.now (plain a.core.now) (plain a.value.now) a.allowed a.self.now c.is_protected.new.self c.refuse_limit.new.self c.in_ok-is_protected.is_protected c.in_ok-is_protected.ensures.played c.if-is_protected.false
    (ap₂ (λ (x y : Bool). x && not y) (sym c.is_limit.ensures ∙ c.if-is_limit.true) c.if-not-allowed.true) c.in_ok-refuse_limit.ensures.played

pub returns-else-not-allowed-clause-played : goal.returns-else-not-allowed-clause-played
returns-else-not-allowed-clause-played g c =
    let a = c.args in
    not_refused a.kind a.name.now (plain a.core.now) (plain a.value.now) a.allowed a.self.now c.is_protected.new.self c.is_protected.new.self c.in_ok-is_protected.is_protected c.in_ok-is_protected.ensures.played c.if-is_protected.false
    (ap₂ (λ (x y : Bool). x && not y) (sym c.is_limit.ensures ∙ c.if-is_limit.true) c.if-not-allowed.false)

pub returns-else-is_limit-clause-played : goal.returns-else-is_limit-clause-played
returns-else-is_limit-clause-played g c =
    let a = c.args in
    not_refused a.kind a.name.now (plain a.core.now) (plain a.value.now) a.allowed a.self.now c.is_protected.new.self c.is_protected.new.self c.in_ok-is_protected.is_protected c.in_ok-is_protected.ensures.played c.if-is_protected.false
    (ap (λ (x : Bool). x && not a.allowed) (sym c.is_limit.ensures ∙ c.if-is_limit.false))
