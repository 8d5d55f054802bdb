use Rattle.std.proofs.Common.{sym, ◌∙◌, arith}
use Rattle.wl_match.specs.Runs.{trees_in}
use Rattle.wl_match.proofs.LentLemmas as lemmas
use Rattle.wl_match.proofs.lent.Items.same.Goals as goal

pub returns-then-n-len : goal.returns-then-n-len
returns-then-n-len c = sym (lemmas.same_apart _ _ (λ e. c.if-n-len.true (c.len-n.ensures ∙ e ∙ sym c.len.ensures)))

pub returns-then-not-both_same : goal.returns-then-not-both_same
returns-then-not-both_same c = lemmas.same_stops (trees_in c.args.self.now) (trees_in c.args.other.now) c.loop-k.k _ _ _ (omega (arith, c.loop-k-test.true, c.len-n.ensures)) (omega (arith, c.loop-k-test.true, c.if-n-len.false, c.len.ensures)) c.both_same.ensures c.at.ensures c.at-in-loop-k.ensures c.if-not-both_same.true c.loop-k.invariant

pub loop-k-preserved : goal.loop-k-preserved
loop-k-preserved c = lemmas.same_goes (trees_in c.args.self.now) (trees_in c.args.other.now) c.loop-k.k _ _ _ (omega (arith, c.loop-k-test.true, c.len-n.ensures)) (omega (arith, c.loop-k-test.true, c.if-n-len.false, c.len.ensures)) c.both_same.ensures c.at.ensures c.at-in-loop-k.ensures c.if-not-both_same.false c.loop-k.invariant
