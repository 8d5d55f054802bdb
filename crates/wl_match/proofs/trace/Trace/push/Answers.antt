use Rattle.std.proofs.Common.{sym, ◌∙◌}
use Rattle.wl_match.specs.Listed.{is_bound, is_noted}
use Rattle.wl_match.proofs.Listings as listings
use Rattle.wl_match.proofs.trace.Trace.push.Goals as goal

pub invariant_of-self : goal.invariant_of-self
invariant_of-self c = record {
  bound_listed = listings.put_elsewhere _ is_bound _ _ c.args.mark _ _ _ c.args.self.now.bound_listed (listings.not_bound c.args.mark _ c.is_noted.ensures c.if-is_noted.true) c.put.ensures;
  noted_listed = listings.put_here _ is_noted _ _ c.args.mark _ _ c.args.self.now.noted_listed (sym c.is_noted.ensures ∙ c.if-is_noted.true) c.put.ensures;
}

pub invariant_of-self-else-is_noted : goal.invariant_of-self-else-is_noted
invariant_of-self-else-is_noted c = record {
  bound_listed = listings.put_here _ is_bound _ _ c.args.mark _ _ c.args.self.now.bound_listed (listings.not_noted c.args.mark _ c.is_noted.ensures c.if-is_noted.false) c.put-else-is_noted.ensures;
  noted_listed = listings.put_elsewhere _ is_noted _ _ c.args.mark _ _ _ c.args.self.now.noted_listed (sym c.is_noted.ensures ∙ c.if-is_noted.false) c.put-else-is_noted.ensures;
}
