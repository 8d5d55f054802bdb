use Rattle.std.proofs.Common.{◌++◌, ◌∷◌, [], ◌∙◌, sym, ap, length}
use Rattle.wl_match.specs.Sizes.{size_at, size_by}
use Rattle.wl_match.proofs.SizesLemmas.{behind_sizes, sizes_more}
use Rattle.wl_match.proofs.size.all_sizes.Goals as goal

pub size_of-size-requires : goal.size_of-size-requires
size_of-size-requires c =
    behind_sizes c.args.parts.now c.loop-part.part-index c.part-item.result (length c.as_slice.result.now)
    (ap length (c.as_slice.ensures.value ∙ c.loop-part.invariant)) c.loop-part-test.true c.part-item.is c.requires

pub loop-part-preserved : goal.loop-part-preserved
loop-part-preserved c =
    c.in_ok-push.ensures.items
    ∙ (λ v. c.loop-part.invariant v ++ (c.size_of-size.ensures ∙ (λ w. size_by (size_at ((c.as_slice.ensures.value ∙ c.loop-part.invariant) w)) c.part-item.result)) v ∷ [])
    ∙ sym (sizes_more c.args.parts.now c.loop-part.part-index c.part-item.result c.loop-part-test.true c.part-item.is)
