use Rattle.wl_expr.specs.Stamped.{plain}
use Rattle.wl_match.proofs.Arms as arms
use Rattle.wl_match.proofs.walk.Walk.run.Goals as goal

pub returns-in-Failed-clause-leaf : goal.returns-in-Failed-clause-leaf
returns-in-Failed-clause-leaf c = arms.reaches_fail c.args.pattern.now (plain c.args.subject.now) _ _ _ _ _ c.loop-goal.invariant.0 (rw c.in-Some.is at c.in_ok-goal.ensures) (rw c.in-Failed.is at c.in_ok-play.ensures.plays)

pub loop-goal-preserved : goal.loop-goal-preserved
loop-goal-preserved c = (
  arms.goes_on c.args.pattern.now (plain c.args.subject.now) _ _ _ _ _ c.loop-goal.invariant.0 (rw c.in-Some.is at c.in_ok-goal.ensures) (rw c.in-Went.is at c.in_ok-play.ensures.plays),
  λ f.
      let g = (rw c.in-Some.is at c.in_ok-goal.ensures).fits c.args.pattern.now (plain c.args.subject.now) (c.loop-goal.invariant.1 f) in
      c.in_ok-play.ensures.fits g.0 g.1,
)

pub returns-in-Failed-clause-fits : goal.returns-in-Failed-clause-fits
returns-in-Failed-clause-fits c f =
    let g = (rw c.in-Some.is at c.in_ok-goal.ensures).fits c.args.pattern.now (plain c.args.subject.now) (c.loop-goal.invariant.1 f) in
    c.in_ok-play.ensures.fits g.0 g.1

pub returns-clause-fits : goal.returns-clause-fits
returns-clause-fits c f = ((rw c.in_default.is at c.in_ok-goal.ensures).fits c.args.pattern.now (plain c.args.subject.now) (c.loop-goal.invariant.1 f)).1

pub loop-goal-smaller : goal.loop-goal-smaller
loop-goal-smaller c = arms.falls_on c.args.pattern.now (plain c.args.subject.now) _ _ _ _ (rw c.in-Some.is at c.in_ok-goal.ensures) (rw c.in-Went.is at c.in_ok-play.ensures.plays)

pub returns-clause-leaf : goal.returns-clause-leaf
returns-clause-leaf c = arms.reaches_found c.args.pattern.now (plain c.args.subject.now) _ _ _ c.loop-goal.invariant.0 (rw c.in_default.is at c.in_ok-goal.ensures)
