use Rattle.std.proofs.Common.{Bool, false, not, Ok, Some, sym, subst₂}
use Rattle.wl_assign.specs.Targets.{Target}
use Rattle.wl_expr.specs.Stamped.{plain}
use Rattle.wl_semantics.specs.Definitions as definitions
use Rattle.wl_state.specs.Operands.{left_side, taken_answer}
use Rattle.wl_state.specs.Played.{Plays}
use Rattle.wl_state.proofs.Targeting.{fails_after}
use Rattle.wl_state.proofs.evaluator.Evaluator.unset_target.Goals as goal

pub returns-in_ok-is_refused-in-Raw-clause-played : goal.returns-in_ok-is_refused-in-Raw-clause-played
returns-in_ok-is_refused-in-Raw-clause-played g c =
    let a = c.args in
    let k1 = c.refused_raw.new.self in
    subst₂ (λ (t : Target) (w : Bool). Plays (definitions.unset_target (left_side (plain a.left.now) (plain a.core.now)) t) a.self.now (Ok (Some (taken_answer (not w)))) k1 false)
    c.in-Raw.ensures.value (sym c.in_ok-is_refused-in-Raw.ensures.refused) (fails_after (definitions.refused_raw (plain a.core.now)) c.in_ok-is_refused-in-Raw.is_refused a.self.now k1 c.in_ok-is_refused-in-Raw.ensures.played)
