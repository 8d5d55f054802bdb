use Rattle.std.proofs.Common.{sym, ◌∙◌, ◌+◌, drop}
use Rattle.wl_match.specs.Listed.{is_bound}
use Rattle.wl_match.proofs.Listings as listings
use Rattle.wl_match.proofs.Views.{mark_fits_at}
use Rattle.wl_match.proofs.pattern.Pattern.find_name.Goals as goal

pub loop-at-init : goal.loop-at-init
loop-at-init c t = listings.begins_at c.args.self.now t c.args.name.now c.args.trail.now.all.now c.args.trail.now.bound.now c.args.trail.now.bound_listed

pub at-requires : goal.at-requires
at-requires c = listings.place_within is_bound c.args.trail.now.all.now c.args.trail.now.bound.now c.loop-at.at-index 0 c.args.trail.now.bound_listed c.loop-at-test.true

pub returns-in-Some-clause-run : goal.returns-in-Some-clause-run
returns-in-Some-clause-run c t =
    let l = c.args.trail.now in
    sym (c.in-Some.ensures.binds t (listings.entries_at c.args.self.now t l.all.now (drop (c.loop-at.at-index + 1) l.bound.now)))
    ∙ listings.seen_at c.args.self.now t c.args.name.now l.all.now l.bound.now c.loop-at.at-index 0 _ l.bound_listed c.loop-at-test.true c.at.ensures ∙ c.loop-at.invariant t

pub returns-in-Some-clause-fits : goal.returns-in-Some-clause-fits
returns-in-Some-clause-fits c t h =
    let l = c.args.trail.now in
    c.in-Some.ensures.fits t (mark_fits_at c.args.self.now t l.all.now _ _ (listings.place_within is_bound l.all.now l.bound.now c.loop-at.at-index 0 l.bound_listed c.loop-at-test.true) c.at.ensures h)

pub loop-at-preserved : goal.loop-at-preserved
loop-at-preserved c t =
    let l = c.args.trail.now in
    sym (c.in-None.ensures.binds t (listings.entries_at c.args.self.now t l.all.now (drop (c.loop-at.at-index + 1) l.bound.now)))
    ∙ listings.seen_at c.args.self.now t c.args.name.now l.all.now l.bound.now c.loop-at.at-index 0 _ l.bound_listed c.loop-at-test.true c.at.ensures ∙ c.loop-at.invariant t

pub returns-clause-run : goal.returns-clause-run
returns-clause-run c t = listings.none_at c.args.self.now t c.args.name.now c.args.trail.now.all.now c.args.trail.now.bound.now _ c.loop-at-test.false (c.loop-at.invariant t)
