use Rattle.std.proofs.Common.{refl}
use Rattle.wl_expr.specs.Stamped.{plain}
use Rattle.wl_match.proofs.Picks as picks
use Rattle.wl_match.proofs.Keeping as keeping
use Rattle.wl_match.proofs.walk.Walk.open_at.Goals as goal

pub returns-in_ok-put-in-Node-2-clause-plays : goal.returns-in_ok-put-in-Node-2-clause-plays
returns-in_ok-put-in-Node-2-clause-plays c = picks.opens_node c.args.pattern.now (plain c.args.subject.now) c.args.i c.args.hp _ c.args.place.now _ _ _ _ c.in-Node.args.now c.args.self.now _ _ c.in-Node.ensures.plain c.tree_at.ensures.is c.in_ok-below-in-Node.ensures c.in_ok-copy-in-Node.ensures refl c.in_ok-put-in-Node.ensures c.in_ok-put-in-Node-2.ensures

pub returns-in_ok-put-in-Node-2-clause-fits : goal.returns-in_ok-put-in-Node-2-clause-fits
returns-in_ok-put-in-Node-2-clause-fits c l s f = keeping.opened_fits c.args.pattern.now (plain c.args.subject.now) c.args.i c.args.hp _ c.args.place.now _ _ _ _ _ c.args.self.now _ _ c.in-Node.ensures.plain c.tree_at.ensures.is c.in_ok-copy-in-Node.ensures c.in_ok-put-in-Node.ensures c.in_ok-put-in-Node-2.ensures l s f
