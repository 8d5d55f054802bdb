use Rattle.std.proofs.Common.{◌∷◌, [], ap, ◌∙◌}
use Rattle.wl_syntax.specs.Lower.{nested, whole}
use Rattle.wl_syntax.proofs.Building.{items_two}
use Rattle.wl_syntax.proofs.Limits.{one_fits}
use Rattle.wl_syntax.proofs.lower.chained.Goals as goal

pub returns-in_ok-one-in-Nests : goal.returns-in_ok-one-in-Nests
returns-in_ok-one-in-Nests c es r p q =
    rw c.in-Nests.is (c.in_ok-one-in-Nests.ensures ∙ ap (λ x. x ∷ []) (rw c.infix_name.ensures at (c.in_ok-pair-in-Nests.ensures (nested c.in-Nests.sameness es ∷ r ∷ [])
    (items_two _ _ (nested c.in-Nests.sameness es) r (c.in_ok-nest-in-Nests.ensures es (c.deref-in-Nests.ensures.value ∙ p)) q))))

pub returns-in_ok-one-in-NestsOn : goal.returns-in_ok-one-in-NestsOn
returns-in_ok-one-in-NestsOn c es r p q =
    rw c.in-NestsOn.is (c.in_ok-one-in-NestsOn.ensures ∙ ap (λ x. x ∷ []) (rw c.infix_name-in-NestsOn.ensures at (c.in_ok-pair-in-NestsOn.ensures (whole c.args.left_form es ∷ r ∷ [])
    (items_two _ _ (whole c.args.left_form es) r (c.in_ok-nest-in-NestsOn.ensures es (c.deref-in-NestsOn.ensures.value ∙ p)) q))))

pub named-requires-clause-fits : goal.named-requires-clause-fits
named-requires-clause-fits c =
    let (es, r, p, q, s) = c.requires in
    (nested c.in-Nests.sameness es ∷ r ∷ [], items_two _ _ (nested c.in-Nests.sameness es) r (c.in_ok-nest-in-Nests.ensures es (c.deref-in-Nests.ensures.value ∙ p)) q, rw c.infix_name.ensures (one_fits _ (rw c.in-Nests.is at s)))

pub named-requires-in-NestsOn-clause-fits : goal.named-requires-in-NestsOn-clause-fits
named-requires-in-NestsOn-clause-fits c =
    let (es, r, p, q, s) = c.requires in
    (whole c.args.left_form es ∷ r ∷ [], items_two _ _ (whole c.args.left_form es) r (c.in_ok-nest-in-NestsOn.ensures es (c.deref-in-NestsOn.ensures.value ∙ p)) q, rw c.infix_name-in-NestsOn.ensures (one_fits _ (rw c.in-NestsOn.is at s)))
