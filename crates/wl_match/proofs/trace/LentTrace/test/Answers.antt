use Rattle.std.proofs.Common.{◌<◌, ap, length, get_or, ◌∙◌, subst, sym}
use Rattle.wl_match.specs.Listed.{is_noted}
use Rattle.wl_match.proofs.Listings as listings
use Rattle.wl_match.proofs.trace.LentTrace.test.Goals as goal

pub returns-in-None : goal.returns-in-None
returns-in-None c = listings.noted_past c.args.self.now.all.now c.args.self.now.noted.now c.args.k c.args.self.now.noted_listed c.in-None.ensures.lookup.3

pub at-requires : goal.at-requires
at-requires c =
    let l = c.args.self.now in
    subst (λ z. z < length l.all.now) (sym c.in-Some.ensures.lookup.1) (listings.place_within is_noted l.all.now l.noted.now c.args.k _ l.noted_listed c.in-Some.ensures.lookup.3.0)

pub returns-in-Noted : goal.returns-in-Noted
returns-in-Noted c =
    let l = c.args.self.now in
    listings.this_noted l.all.now l.noted.now c.args.k _ _ _ _ l.noted_listed c.in-Some.ensures.lookup.3.0 (c.at.ensures ∙ ap (λ z. get_or l.all.now z c.at.result.now) c.in-Some.ensures.lookup.1) c.in-Noted.is

pub returns-in-Bound : goal.returns-in-Bound
returns-in-Bound c =
    let l = c.args.self.now in
    absurd (listings.no_bound l.all.now l.noted.now c.args.k _ _ _ _ l.noted_listed c.in-Some.ensures.lookup.3.0 (c.at.ensures ∙ ap (λ z. get_or l.all.now z c.at.result.now) c.in-Some.ensures.lookup.1) c.in-Bound.is)
