use Rattle.std.proofs.Common.{refl}
use Rattle.wl_expr.specs.Stamped.{plain}
use Rattle.wl_match.proofs.Picks as picks
use Rattle.wl_match.proofs.Keeping as keeping
use Rattle.wl_match.proofs.walk.Walk.try_lengths.Goals as goal

pub returns-then-has_later-clause-plays : goal.returns-then-has_later-clause-plays
returns-then-has_later-clause-plays c = picks.lengths_more c.args.pattern.now (plain c.args.subject.now) c.args.i c.args.j c.in-Some.q c.args.low _ c.args.count _ c.args.left.now _ _ _ c.args.self.now _ _ c.in-Some.ensures c.default_at.ensures c.if-count-eq0.false c.has_later.ensures c.if-has_later.true c.in_ok-longer.ensures refl c.in_ok-copy.ensures c.in_ok-keep.ensures c.in_ok-take_length.ensures.turns

pub returns-clause-plays : goal.returns-clause-plays
returns-clause-plays c = picks.lengths_last c.args.pattern.now (plain c.args.subject.now) c.args.i c.args.j c.in-Some.q c.args.low c.args.count c.args.left.now _ _ c.args.self.now _ c.in-Some.ensures c.default_at.ensures c.if-count-eq0.false c.has_later.ensures c.if-has_later.false c.in_ok-take_length-2.ensures.turns

pub returns-then-has_later-clause-fits : goal.returns-then-has_later-clause-fits
returns-then-has_later-clause-fits c h f = c.in_ok-take_length.ensures.fits h (c.in_ok-keep.ensures.fits c.args.pattern.now (plain c.args.subject.now) (keeping.left_same c.args.pattern.now (plain c.args.subject.now) c.args.i c.args.j c.args.left.now _ c.in_ok-copy.ensures h) f)

pub returns-clause-fits : goal.returns-clause-fits
returns-clause-fits c h f = c.in_ok-take_length-2.ensures.fits h f
