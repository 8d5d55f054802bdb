use Rattle.std.proofs.Common.{arith}
use Rattle.wl_expr.specs.Stamped.{plain}
use Rattle.wl_match.specs.Runs.{trees_in}
use Rattle.wl_match.proofs.LentLemmas as lemmas
use Rattle.wl_match.proofs.sorts.items_have.Goals as goal

pub returns-then-not-is_headed : goal.returns-then-not-is_headed
returns-then-not-is_headed c = lemmas.have_stops (plain c.args.head.now) (trees_in c.args.items.now) c.loop-k.k _ _ (omega (arith, c.loop-k-test.true, c.len-k-end.ensures)) c.is_headed.ensures c.at.ensures c.if-not-is_headed.true c.loop-k.invariant

pub loop-k-preserved : goal.loop-k-preserved
loop-k-preserved c = lemmas.have_goes (plain c.args.head.now) (trees_in c.args.items.now) c.loop-k.k _ _ (omega (arith, c.loop-k-test.true, c.len-k-end.ensures)) c.is_headed.ensures c.at.ensures c.if-not-is_headed.false c.loop-k.invariant
