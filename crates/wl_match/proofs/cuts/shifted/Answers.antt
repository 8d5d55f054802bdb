use Rattle.std.proofs.Common.{◌≡◌, ◌+◌, ◌<◌, subst, sym, get_or, length, take, drop, arith}
use Rattle.std.specs.Prelude.{IsTrue}
use Rattle.wl_match.specs.Fits.{are_places}
use Rattle.wl_match.specs.Runs.{elements_of}
use Rattle.wl_match.specs.Means.{tree_among}
use Rattle.wl_match.proofs.CutsLemmas as lemmas
use Rattle.wl_match.proofs.Fitting as fitting
use Rattle.wl_match.proofs.cuts.shifted.Goals as goal

pub loop-place-preserved : goal.loop-place-preserved
loop-place-preserved c u m e =
    let chosen = c.args.chosen.now in
    let k = c.loop-place.place-index in
    let r = take m (drop c.args.start (elements_of u)) in
    let h = c.loop-place.invariant u m e in
    let l : get_or chosen k 0 < length r = omega (arith, c.if-place-n.false) in
    let at : c.in_ok-short.field-0 ≡ c.args.start + get_or chosen k 0 = omega (arith, c.in_ok-short.ensures, c.in-Some.ensures) in (
      lemmas.picked_more u (tree_among r) c.loop-place.all _ chosen k _ _ c.loop-place-test.true c.in_ok-push.ensures (lemmas.element_of_part u m c.args.start (get_or chosen k 0) _ l at) h.0,
      subst (λ z. IsTrue (are_places u z)) (sym c.in_ok-push.ensures) (fitting.places_put u c.loop-place.all _ h.1 (fitting.place_in (elements_of u) m c.args.start (get_or chosen k 0) _ l at)),
    )
