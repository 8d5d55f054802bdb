use Rattle.std.proofs.Common.{◌∷◌, [], ◌++◌, sym, ap, ◌∙◌}
use Rattle.wl_stamps.specs.Reads.{Read}
use Rattle.wl_stamps.proofs.Noting.{take-more}
use Rattle.wl_stamps.proofs.trial.seal.Goals as goal

pub loop-k-preserved : goal.loop-k-preserved
loop-k-preserved c =
    let r : Read = (c.in-Some.index, c.in-Some.version) in
    c.in_ok-push.ensures.ok ∙ ap (λ xs. xs ++ r ∷ []) c.loop-k.invariant ∙ sym (take-more c.args.trial.now.reads c.loop-k.k r (sym c.in-Some.ensures))
