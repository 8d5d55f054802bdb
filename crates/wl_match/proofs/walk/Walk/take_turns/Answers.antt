use Rattle.wl_expr.specs.Stamped.{plain}
use Rattle.wl_match.proofs.Arms as arms
use Rattle.wl_match.proofs.Keeping as keeping
use Rattle.wl_match.proofs.walk.Walk.take_turns.Goals as goal

pub returns-then-n-eq0-clause-plays : goal.returns-then-n-eq0-clause-plays
returns-then-n-eq0-clause-plays c = arms.turns_end c.args.pattern.now (plain c.args.subject.now) c.args.i c.args.run.now c.args.self.now _ c.length-n.ensures c.if-n-eq0.true

pub returns-clause-plays : goal.returns-clause-plays
returns-clause-plays c = arms.turns_on c.args.pattern.now (plain c.args.subject.now) c.args.i c.args.run.now _ _ c.args.self.now _ _ _ c.length-n.ensures c.if-n-eq0.false (c.in_ok-first.ensures.is c.args.pattern.now (plain c.args.subject.now)) (c.in_ok-others.ensures.is c.args.pattern.now (plain c.args.subject.now)) c.in_ok-put.ensures c.in_ok-put-2.ensures

pub returns-clause-fits : goal.returns-clause-fits
returns-clause-fits c h f = keeping.turn_fits c.args.pattern.now (plain c.args.subject.now) c.args.i _ c.args.run.now _ _ c.args.self.now _ _ c.length-n.ensures c.if-n-eq0.false (c.in_ok-first.ensures.is c.args.pattern.now (plain c.args.subject.now)) c.in_ok-first.ensures.narrows c.in_ok-others.ensures.narrows c.in_ok-put.ensures c.in_ok-put-2.ensures h f
