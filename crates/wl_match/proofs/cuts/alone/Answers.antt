use Rattle.std.proofs.Common.{◌+◌, ◌∷◌, [], ap, sym, ◌∙◌, get_or}
use Rattle.wl_match.proofs.Picks as picks
use Rattle.wl_match.proofs.cuts.alone.Goals as goal

pub returns-in_ok-below-in-Slice-clause-is : goal.returns-in_ok-below-in-Slice-clause-is
returns-in_ok-below-in-Slice-clause-is c ss t u h =
    ap (λ z. z ∷ []) (sym (picks.slice_child ss t c.in-Slice.place c.in-Slice.field-2 c.in-Slice.from _ _ c.args.run.now u c.in-Slice.is c.in_ok-sum-in-Slice.ensures c.in_ok-step-in-Slice.ensures h
    ∙ picks.below_is ss t c.in-Slice.place _ _ c.in_ok-below-in-Slice.ensures))

pub returns-in_ok-below-in-Picked-clause-is : goal.returns-in_ok-below-in-Picked-clause-is
returns-in_ok-below-in-Picked-clause-is c ss t u h =
    ap (λ z. z ∷ []) (sym (picks.picked_child ss t c.in-Picked.place c.in-Picked.places _ _ 0 c.args.run.now u c.in-Picked.is (c.in_ok-sum-in-Picked.ensures ∙ ap (λ z. get_or z 0 0 + 1) c.as_slice-places.ensures) c.in_ok-step-in-Picked.ensures h
    ∙ picks.below_is ss t c.in-Picked.place _ _ c.in_ok-below-in-Picked.ensures))
