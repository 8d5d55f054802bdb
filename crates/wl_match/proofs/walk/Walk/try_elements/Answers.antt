use Rattle.wl_expr.specs.Stamped.{plain}
use Rattle.wl_match.proofs.Arms as arms
use Rattle.wl_match.proofs.Keeping as keeping
use Rattle.wl_match.proofs.walk.Walk.try_elements.Goals as goal

pub returns-clause-plays : goal.returns-clause-plays
returns-clause-plays c = arms.elements_plays c.args.pattern.now (plain c.args.subject.now) c.args.i c.args.j _ _ _ c.args.left.now _ c.args.self.now _ _ c.inside.ensures c.if-j-inside.false c.length-n.ensures c.in_ok-span.ensures c.in_ok-copy.ensures c.in_ok-put.ensures

pub returns-clause-fits : goal.returns-clause-fits
returns-clause-fits c h f = keeping.put_one c.args.pattern.now (plain c.args.subject.now) _ _ _ c.in_ok-put.ensures (keeping.left_same c.args.pattern.now (plain c.args.subject.now) c.args.i c.args.j c.args.left.now _ c.in_ok-copy.ensures h) f
