use Rattle.std.proofs.Common.{◌∙◌, sym, ap, Some}
use Rattle.wl_match.specs.Sizes.{after, size_at}
use Rattle.wl_match.proofs.SizesLemmas.{among_more}
use Rattle.wl_match.proofs.size.among.Goals as goal

pub loop-place-preserved : goal.loop-place-preserved
loop-place-preserved c =
    ap Some (c.joined.ensures ∙ (λ v. after (c.loop-place.invariant v) (c.size_there.ensures v)))
    ∙ sym (among_more (size_at c.args.sizes.now) c.args.places.now c.loop-place.place-index 0 c.loop-place-test.true)
