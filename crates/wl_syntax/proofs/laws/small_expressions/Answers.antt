use Rattle.std.proofs.Common.{length, sym, subst, arith}
use Rattle.wl_syntax.specs.Tree.{reads}
use Rattle.wl_syntax.proofs.Costs.{AllFit, tokens_fit}
use Rattle.wl_syntax.proofs.TreeDepths.{lower_height}
use Rattle.wl_syntax.proofs.Weights.{lower_weight}
use Rattle.wl_syntax.proofs.laws.small_expressions.Goals as goal

pub returns : goal.returns
returns c bytes t l h =
    let a : AllFit (reads t) (length bytes) = subst (λ k. AllFit k (length bytes)) (sym h.1.1) (tokens_fit bytes h.0.0) in
    let b = a.light in let w = lower_weight t h.1.0 in (omega arith, lower_height t)
