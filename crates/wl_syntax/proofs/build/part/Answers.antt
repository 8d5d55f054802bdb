use Rattle.std.proofs.Common.{◌∷◌, ◌∙◌, subst}
use Rattle.wl_syntax.proofs.Building.{items_more}
use Rattle.wl_syntax.proofs.Groups.{part_one}
use Rattle.wl_syntax.specs.Built.{Is, calling}
use Rattle.wl_syntax.specs.Tree.{more}
use Rattle.wl_syntax.proofs.SmallTrees.{part_fits}
use Rattle.wl_syntax.proofs.build.part.Goals as goal

pub returns : goal.returns
returns c =
    part_one _ _ c.in-Args.args _ _ c.in-Args.is c.in_ok-one.ensures c.in-Some.ensures
    (λ h es p q. c.in_ok-expr.ensures (h ∷ es) (c.deref-2.ensures.value ∙ c.in_ok-all.ensures ∙ items_more _ _ h es p (c.deref.ensures.value ∙ q)))

pub named-requires-clause-fits : goal.named-requires-clause-fits
named-requires-clause-fits c =
    let (f, xs, t, i, s) = c.requires in
    let (h, es, p, q, w) = part_fits c.in-Args.args f xs t (subst (λ j. Is j (calling f (more xs t))) c.in-Args.is i) s in
    (h ∷ es, c.deref-2.ensures.value ∙ c.in_ok-all.ensures ∙ items_more _ _ h es p (c.deref.ensures.value ∙ q), w)
