use Rattle.std.proofs.Common.{refl, ap, ◌∙◌, map}
use Rattle.wl_expr.specs.Stamped.{plain}
use Rattle.wl_match.specs.Means.{tree_among}
use Rattle.wl_match.specs.Runs.{run_at}
use Rattle.wl_match.proofs.Picks as picks
use Rattle.wl_match.proofs.Keeping as keeping
use Rattle.wl_match.proofs.walk.Walk.pick.Goals as goal

pub returns-then-more-eq0-clause-plays : goal.returns-then-more-eq0-clause-plays
returns-then-more-eq0-clause-plays c = picks.picks_end c.args.pattern.now (plain c.args.subject.now) c.args.i c.args.j c.in-Some.q c.args.more c.args.at _ c.args.left.now c.in_ok-run.run' c.in_ok-rest.rest c.args.chosen.now c.args.skipped.now c.args.self.now _ c.in-Some.ensures c.if-more-eq0.true c.in_ok-next.ensures (c.in_ok-run.ensures.is ∙ ap (map (tree_among (run_at c.args.pattern.now (plain c.args.subject.now) c.args.left.now))) c.as_slice.ensures) c.in_ok-rest.ensures.is c.in_ok-take.ensures.turns

pub returns-then-at-n-clause-plays : goal.returns-then-at-n-clause-plays
returns-then-at-n-clause-plays c = picks.picks_fail c.args.pattern.now (plain c.args.subject.now) c.args.i c.args.j c.in-Some.q c.args.more c.args.at _ c.args.left.now c.args.chosen.now c.args.skipped.now c.args.self.now c.in-Some.ensures c.if-more-eq0.false c.length-n.ensures c.if-at-n.true

pub returns-then-more-n-clause-plays : goal.returns-then-more-n-clause-plays
returns-then-more-n-clause-plays c = picks.picks_more c.args.pattern.now (plain c.args.subject.now) c.args.i c.args.j c.in-Some.q c.args.more _ c.args.at _ _ 0 c.args.left.now _ _ c.args.chosen.now _ _ c.args.skipped.now _ _ c.args.self.now _ _ c.in-Some.ensures c.if-more-eq0.false refl c.length-n.ensures c.if-at-n.false c.if-more-n.true c.in_ok-place.ensures c.in_ok-copy.ensures c.in_ok-with.ensures c.in_ok-copy-2.ensures c.in_ok-copy-3.ensures c.in_ok-copy-4.ensures c.in_ok-with-2.ensures c.in_ok-keep.ensures c.in_ok-put.ensures

pub returns-clause-plays : goal.returns-clause-plays
returns-clause-plays c = picks.picks_last c.args.pattern.now (plain c.args.subject.now) c.args.i c.args.j c.in-Some.q c.args.more _ c.args.at _ _ c.args.left.now _ c.args.chosen.now _ c.args.skipped.now _ c.args.self.now _ c.in-Some.ensures c.if-more-eq0.false refl c.length-n.ensures c.if-at-n.false c.if-more-n.false c.in_ok-place.ensures c.in_ok-copy.ensures c.in_ok-with.ensures c.in_ok-copy-2.ensures c.in_ok-put-2.ensures

pub returns-then-more-eq0-clause-fits : goal.returns-then-more-eq0-clause-fits
returns-then-more-eq0-clause-fits c h f = c.in_ok-take.ensures.fits (c.in_ok-run.ensures.picked c.args.i h.0 h.1.0) (keeping.element_left c.args.pattern.now (plain c.args.subject.now) c.args.i c.in_ok-rest.rest (c.in_ok-rest.ensures.picked c.args.i h.0 h.1.0)) (keeping.served c.args.pattern.now (plain c.args.subject.now) c.args.i c.args.j c.in-Some.q _ c.args.left.now c.in-Some.ensures c.in_ok-next.ensures h.1) f

pub returns-then-more-n-clause-fits : goal.returns-then-more-n-clause-fits
returns-then-more-n-clause-fits c h f =
    keeping.put_one c.args.pattern.now (plain c.args.subject.now) _ _ _ c.in_ok-put.ensures (h.0, keeping.left_same c.args.pattern.now (plain c.args.subject.now) c.args.i c.args.j c.args.left.now _ c.in_ok-copy.ensures h.1)
    (c.in_ok-keep.ensures.fits c.args.pattern.now (plain c.args.subject.now) (h.0, keeping.left_same c.args.pattern.now (plain c.args.subject.now) c.args.i c.args.j c.args.left.now _ c.in_ok-copy-3.ensures h.1) f)

pub returns-clause-fits : goal.returns-clause-fits
returns-clause-fits c h f =
    keeping.put_one c.args.pattern.now (plain c.args.subject.now) _ _ _ c.in_ok-put-2.ensures (h.0, keeping.left_same c.args.pattern.now (plain c.args.subject.now) c.args.i c.args.j c.args.left.now _ c.in_ok-copy.ensures h.1) f
