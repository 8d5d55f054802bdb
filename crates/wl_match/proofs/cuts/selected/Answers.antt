use Rattle.std.proofs.Common.{subst, sym, get_or}
use Rattle.std.specs.Prelude.{IsTrue}
use Rattle.wl_match.specs.Fits.{are_places}
use Rattle.wl_match.specs.Runs.{picked}
use Rattle.wl_match.specs.Means.{tree_among}
use Rattle.wl_match.proofs.CutsLemmas as lemmas
use Rattle.wl_match.proofs.Fitting as fitting
use Rattle.wl_match.proofs.cuts.selected.Goals as goal

pub loop-at-preserved : goal.loop-at-preserved
loop-at-preserved c =
    let chosen = c.args.chosen.now in
    let places = c.args.places.now in
    let k = c.loop-at.at-index in (
      (λ u. lemmas.picked_more u (tree_among (picked u places)) c.loop-at.all _ chosen k _ _ c.loop-at-test.true c.in_ok-push.ensures (lemmas.element_of_picked u places (get_or chosen k 0) 0 c.if-at-places.false) (c.loop-at.invariant.0 u)),
      (λ u h. subst (λ z. IsTrue (are_places u z)) (sym c.in_ok-push.ensures) (fitting.places_put u c.loop-at.all _ (c.loop-at.invariant.1 u h) (fitting.place_got u places (get_or chosen k 0) 0 c.if-at-places.false h))),
    )
