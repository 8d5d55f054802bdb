use Rattle.std.proofs.Common.{false, Ok, sym, subst, subst₂}
use Rattle.wl_expr.specs.Stamped.{Stamped, plain}
use Rattle.wl_state.specs.Played.{Honest, Plays}
use Rattle.wl_semantics.specs.Prog.{doing, put_rule}
use Rattle.wl_state.proofs.Rows.{later}
use Rattle.wl_state.proofs.DefiningParts.{defined_not, defined_put}
use Rattle.wl_state.proofs.evaluator.Evaluator.defined.Goals as goal

pub returns-then-is_refused-clause-played : goal.returns-then-is_refused-clause-played
returns-then-is_refused-clause-played g c =
    let a = c.args in
    defined_not a.kind a.name.now (plain a.left.now) (plain a.core.now) (plain a.body.now) (plain a.value.now) a.allowed a.self.now c.forbids.new.self c.forbids.new.self c.in_ok-is_refused.is_refused c.in_ok-is_refused.ensures.played c.if-is_refused.true

pub put_rule-requires-clause-honest : goal.put_rule-requires-clause-honest
put_rule-requires-clause-honest g c =
    let v = c.in_ok-is_refused.ensures.played in
    let k1 = c.forbids.new.self in
    (subst (Honest k1) (sym c.in_ok-copy.ensures) (later v _ c.requires.left), subst (Honest k1) (sym c.in_ok-copy-2.ensures) (later v _ c.requires.body))

pub returns-clause-played : goal.returns-clause-played
returns-clause-played g c =
    let a = c.args in
    let k1 = c.forbids.new.self in
    let k2 = c.put_rule.new.self in
    let put = subst₂ (λ (l b : Stamped). Plays (doing (put_rule a.name.now a.kind (record { left = plain l; body = plain b }))) k1 (Ok tt) k2 false) c.in_ok-copy.ensures c.in_ok-copy-2.ensures c.in_ok-put_rule.ensures.played in
    defined_put a.kind a.name.now (plain a.left.now) (plain a.core.now) (plain a.body.now) (plain a.value.now) a.allowed a.self.now k1 k2 c.in_ok-is_refused.is_refused c.in_ok-is_refused.ensures.played c.if-is_refused.false put
