use Rattle.wl_expr.specs.Stamped.{plain}
use Rattle.wl_match.proofs.Picks as picks
use Rattle.wl_match.proofs.Keeping as keeping
use Rattle.wl_match.proofs.walk.Walk.open_below.Goals as goal

pub returns-clause-plays : goal.returns-clause-plays
returns-clause-plays c = picks.plays_opening c.args.pattern.now (plain c.args.subject.now) c.args.i c.args.hp _ _ c.args.self.now _ _ (picks.below_is c.args.pattern.now (plain c.args.subject.now) c.args.place.now _ c.args.step c.in_ok-below.ensures) c.in_ok-step.ensures.plays

pub returns-clause-fits : goal.returns-clause-fits
returns-clause-fits c l s f = c.in_ok-step.ensures.fits (keeping.like_as c.args.pattern.now c.args.i _ _ (picks.below_is c.args.pattern.now (plain c.args.subject.now) c.args.place.now _ c.args.step c.in_ok-below.ensures) l) s f
