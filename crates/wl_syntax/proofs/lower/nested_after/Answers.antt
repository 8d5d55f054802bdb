use Rattle.std.proofs.Common.{◌∷◌, [], ap, ◌∙◌}
use Rattle.wl_syntax.proofs.Building.{nest_more, nest_begin}
use Rattle.wl_syntax.proofs.Limits.{nest_fits}
use Rattle.wl_syntax.proofs.lower.nested_after.Goals as goal

pub loop-operand-preserved : goal.loop-operand-preserved
loop-operand-preserved c =
    nest_more _ _ _ _ c.operand-item.result _ _ c.loop-operand-test.true c.loop-operand.invariant
    (λ es e. rw c.infix_name.ensures at (c.in_ok-pair.ensures es (ap (λ x. c.loop-operand.pair ∷ x ∷ []) (c.in_ok-copy.ensures ∙ c.operand-item.is) ∙ e)))

pub loop-operand-init : goal.loop-operand-init
loop-operand-init c = nest_begin _ _

pub named-requires-clause-fits : goal.named-requires-clause-fits
named-requires-clause-fits c =
    let (e, fs, p, q, w) = c.requires in
    rw c.infix_name.ensures (nest_fits _ _ _ _ c.operand-item.result _ _ e fs c.loop-operand-test.true c.loop-operand.invariant p q w (c.in_ok-copy.ensures ∙ c.operand-item.is))
