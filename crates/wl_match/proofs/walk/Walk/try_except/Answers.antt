use Rattle.wl_expr.specs.Stamped.{plain}
use Rattle.wl_match.proofs.Arms as arms
use Rattle.wl_match.proofs.walk.Walk.try_except.Goals as goal

pub returns-in_ok-put-in-None-clause-plays : goal.returns-in_ok-put-in-None-clause-plays
returns-in_ok-put-in-None-clause-plays c = arms.blank_excepted c.args.pattern.now (plain c.args.subject.now) c.args.i _ c.args.q c.args.run.now _ c.args.self.now _ c.in-None.is c.length.ensures c.if-length-ne1.false c.in_ok-copy-in-None.ensures c.in_ok-put-in-None.ensures
