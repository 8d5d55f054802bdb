use Rattle.std.proofs.Common.{false, Ok, subst}
use Rattle.wl_expr.specs.Stamped.{Stamped, plain}
use Rattle.wl_semantics.specs.Definitions as definitions
use Rattle.wl_state.specs.Played.{Plays}
use Rattle.wl_state.proofs.DefiningParts.{taken_not, taken_found}
use Rattle.wl_state.proofs.evaluator.Evaluator.taken_away.Goals as goal

pub returns-then-is_refused-clause-played : goal.returns-then-is_refused-clause-played
returns-then-is_refused-clause-played g c =
    let a = c.args in
    let k1 = c.forbids.new.self in
    let r = c.in_ok-is_refused.is_refused in
    let h = subst (λ (v : Stamped). Plays (definitions.refuses a.kind a.name.now (plain a.core.now) (plain v) false) a.self.now (Ok r) k1 false) c.in_ok-null.ensures c.in_ok-is_refused.ensures.played in
    taken_not a.kind a.name.now (plain a.left.now) (plain a.core.now) a.self.now k1 r h c.attributes_of.new.self c.if-is_refused.true c.in_ok-_looked.ensures.looked

pub returns-clause-played : goal.returns-clause-played
returns-clause-played g c =
    let a = c.args in
    let k1 = c.forbids.new.self in
    let r = c.in_ok-is_refused.is_refused in
    let h = subst (λ (v : Stamped). Plays (definitions.refuses a.kind a.name.now (plain a.core.now) (plain v) false) a.self.now (Ok r) k1 false) c.in_ok-null.ensures c.in_ok-is_refused.ensures.played in
    taken_found a.kind a.name.now (plain a.left.now) (plain a.core.now) a.self.now k1 r h c.remove_rule.new.self c.in_ok-found.found c.if-is_refused.false c.in_ok-found.ensures.played
