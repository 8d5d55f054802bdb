use Rattle.std.proofs.Common.{◌∷◌, ◌++◌, [], ap, ◌∙◌}
use Rattle.std.specs.Prelude.{None}
use Rattle.wl_expr.specs.Stamped.{symbol}
use Rattle.wl_syntax.proofs.Building.{each_more}
use Rattle.wl_syntax.proofs.Heads.{infix_is_name}
use Rattle.wl_syntax.proofs.lower.separated_after.Goals as goal

pub loop-operand-preserved : goal.loop-operand-preserved
loop-operand-preserved c =
    each_more _ _ _ c.operand-item.result _ _ _ _ c.loop-operand-test.true c.loop-operand.invariant
    (c.in_ok-push-2.ensures.items ∙ ap (λ x. c.loop-operand.all.items ++ x ∷ []) (c.in_ok-symbol.ensures ∙ ap (λ n. symbol None n) c.infix_name.ensures))
    (c.in_ok-push-3.ensures.items ∙ ap (λ x. c.push-in-loop-operand.new.self.items ++ x ∷ []) (c.in_ok-copy.ensures ∙ c.operand-item.is))

pub symbol-requires-clause-name : goal.symbol-requires-clause-name
symbol-requires-clause-name c = rw c.infix_name.ensures (infix_is_name c.args.comparison)
