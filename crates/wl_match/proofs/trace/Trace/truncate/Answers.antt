use Rattle.wl_match.specs.Listed.{is_bound, is_noted}
use Rattle.wl_match.proofs.Listings as listings
use Rattle.wl_match.proofs.trace.Trace.truncate.Goals as goal

pub invariant_of-self : goal.invariant_of-self
invariant_of-self c = record {
  bound_listed = listings.places_cut is_bound c.args.len _ _ _ _ c.args.self.now.bound_listed c.cut.ensures c.truncate.ensures.items;
  noted_listed = listings.places_cut is_noted c.args.len _ _ _ _ c.args.self.now.noted_listed c.cut-2.ensures c.truncate.ensures.items;
}
