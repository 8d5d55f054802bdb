use Rattle.std.proofs.Common.{◌≡◌, ◌+◌, ◌<◌, subst, sym, length, take, drop, arith}
use Rattle.std.specs.Prelude.{IsTrue}
use Rattle.wl_match.specs.Fits.{are_places}
use Rattle.wl_match.specs.Runs.{elements_of}
use Rattle.wl_match.proofs.CutsLemmas as lemmas
use Rattle.wl_match.proofs.Fitting as fitting
use Rattle.wl_match.proofs.cuts.places_of.Goals as goal

pub loop-at-preserved : goal.loop-at-preserved
loop-at-preserved c u m e =
    let r = take m (drop c.args.start (elements_of u)) in
    let h = c.loop-at.invariant u m e in
    let l : c.loop-at.at < length r = omega (arith, c.loop-at-test.true) in
    let at : c.in_ok-short.field-0 ≡ c.args.start + c.loop-at.at = omega (arith, c.in_ok-short.ensures, c.in_ok-sum.ensures) in (
      lemmas.part_more u m c.args.start c.loop-at.at _ c.loop-at.all _ l at c.in_ok-push.ensures h.0,
      subst (λ z. IsTrue (are_places u z)) (sym c.in_ok-push.ensures) (fitting.places_put u c.loop-at.all _ h.1 (fitting.place_in (elements_of u) m c.args.start c.loop-at.at _ l at)),
    )
