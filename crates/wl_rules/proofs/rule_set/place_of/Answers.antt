use Rattle.std.proofs.Common.{add-one, rules}
use Rattle.wl_expr.specs.Stamped.{plain}
use Rattle.wl_rules.specs.StampedRules.{left_of}
use Rattle.wl_rules.proofs.Places.{same_at, apart_at}
use Rattle.wl_rules.proofs.RuleOrder.{has_left_more}
use Rattle.wl_rules.proofs.rule_set.place_of.Goals as goal

pub returns-then-same : goal.returns-then-same
returns-then-same c = (c.loop-at-test.true, c.loop-at.invariant, same_at (plain c.args.left.now) c.args.rules.now c.loop-at.at c.index-rules-at.result c.loop-at-test.true c.index-rules-at.is (search rules))

pub loop-at-preserved : goal.loop-at-preserved
loop-at-preserved c =
    rw add-one (has_left_more left_of (plain c.args.left.now) c.args.rules.now c.loop-at.at c.index-rules-at.result c.loop-at-test.true c.loop-at.invariant (apart_at (plain c.args.left.now) c.args.rules.now c.loop-at.at c.index-rules-at.result c.index-rules-at.is (λ e. search rules)))
