use Rattle.wl_expr.specs.Stamped.{plain}
use Rattle.wl_match.proofs.Picks as picks
use Rattle.wl_match.proofs.Keeping as keeping
use Rattle.wl_match.proofs.walk.Walk.take.Goals as goal

pub returns-clause-turns : goal.returns-clause-turns
returns-clause-turns c = picks.turned c.args.pattern.now (plain c.args.subject.now) c.args.i c.args.next c.args.q c.args.left _ _ c.args.self.now _ _ c.in_ok-put.ensures c.in_ok-stretched.ensures.is c.in_ok-put-2.ensures

pub returns-clause-fits : goal.returns-clause-fits
returns-clause-fits c e l s f = keeping.taken_fits c.args.pattern.now (plain c.args.subject.now) c.args.i c.args.next c.args.q c.args.left _ c.args.self.now _ _ c.in_ok-put.ensures c.in_ok-put-2.ensures (c.in_ok-stretched.ensures.serves e) l s f
