use Rattle.std.proofs.Common.{◌≢◌, ◌-◌, refl, arith}
use Rattle.wl_match.proofs.Listings as listings
use Rattle.wl_match.proofs.trace.count_before.Goals as goal

pub loop-n-preserved : goal.loop-n-preserved
loop-n-preserved c =
    let h = c.loop-n.invariant in
    let some : c.loop-n.n ≢ 0 = omega (arith, c.loop-n-test.true) in
    (omega (arith, h.0), listings.fewer c.args.places.now c.loop-n.n (c.loop-n.n - 1) c.args.len 0 some refl h.0 c.if-places-n.true h.1)

pub returns-else-places-n : goal.returns-else-places-n
returns-else-places-n c r =
    let some : c.loop-n.n ≢ 0 = omega (arith, c.loop-n-test.true) in
    listings.no_fewer c.args.places.now c.loop-n.n (c.loop-n.n - 1) c.args.len 0 some refl c.loop-n.invariant.0 c.if-places-n.false r c.loop-n.invariant.1
