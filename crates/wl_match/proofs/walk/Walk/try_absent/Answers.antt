use Rattle.wl_expr.specs.Stamped.{plain}
use Rattle.wl_match.proofs.Picks as picks
use Rattle.wl_match.proofs.Keeping as keeping
use Rattle.wl_match.proofs.walk.Walk.try_absent.Goals as goal

pub returns-in-None-clause-plays : goal.returns-in-None-clause-plays
returns-in-None-clause-plays c = picks.absent_none c.args.pattern.now (plain c.args.subject.now) c.args.i c.args.j c.args.q c.args.left.now c.args.self.now (c.in-None.ensures (plain c.args.subject.now))

pub returns-in-None-name_at-clause-plays : goal.returns-in-None-name_at-clause-plays
returns-in-None-name_at-clause-plays c = picks.absent_unnamed c.args.pattern.now (plain c.args.subject.now) c.args.i c.args.j c.args.q _ _ c.args.left.now _ c.args.self.now _ (c.in-Some.ensures (plain c.args.subject.now)) c.in-None-name_at.ensures c.in_ok-next.ensures c.in_ok-copy.ensures c.in_ok-put.ensures

pub returns-in_ok-step-in-Some-name_at-clause-plays : goal.returns-in_ok-step-in-Some-name_at-clause-plays
returns-in_ok-step-in-Some-name_at-clause-plays c = picks.absent_named c.args.pattern.now (plain c.args.subject.now) c.args.i c.args.j c.args.q _ _ _ c.args.left.now _ _ c.args.self.now _ _ _ (c.in-Some.ensures (plain c.args.subject.now)) c.in-Some-name_at.ensures c.in_ok-next.ensures c.in_ok-copy.ensures c.kept-place.ensures c.in_ok-put.ensures c.in_ok-step-in-Some-name_at.ensures.plays

pub returns-in-None-name_at-clause-fits : goal.returns-in-None-name_at-clause-fits
returns-in-None-name_at-clause-fits c h f = keeping.behind_fits c.args.pattern.now (plain c.args.subject.now) c.args.i c.args.j c.args.q _ c.args.left.now _ c.args.self.now _ c.requires c.in_ok-next.ensures c.in_ok-copy.ensures c.in_ok-put.ensures h f

pub returns-in_ok-step-in-Some-name_at-clause-fits : goal.returns-in_ok-step-in-Some-name_at-clause-fits
returns-in_ok-step-in-Some-name_at-clause-fits c h f =
    c.in_ok-step-in-Some-name_at.ensures.fits (keeping.default_fits c.args.pattern.now (plain c.args.subject.now) c.args.i c.args.j c.args.q _ c.args.left.now c.kept-place.result c.requires c.in-Some-name_at.ensures h)
    (keeping.behind_fits c.args.pattern.now (plain c.args.subject.now) c.args.i c.args.j c.args.q _ c.args.left.now _ c.args.self.now _ c.requires c.in_ok-next.ensures c.in_ok-copy.ensures c.in_ok-put.ensures h f)
