use Rattle.std.proofs.Common.{rules, ◌≡◌, ◌++◌, ◌∷◌, ◌-◌, [], ap, sym, subst, arith}
use Rattle.wl_exact.specs.Span.{first}
use Rattle.wl_expr.specs.Passed.{IsFrom}
use Rattle.wl_expr.specs.Stamped.{plain, num}
use Rattle.wl_lists.specs.Answers.{trees}
use Rattle.wl_lists.specs.Ranges.{values}
use Rattle.wl_lists.specs.RangesInside.{plain_bounds, plain_coming}
use Rattle.wl_lists.proofs.Makings.{next_from}
use Rattle.wl_lists.proofs.Spanning.{value_made, ended_whole, all_made}
use Rattle.wl_lists.proofs.ranges.values.Goals as goal

pub returns-in-Ended-clause-value : goal.returns-in-Ended-clause-value
returns-in-Ended-clause-value c =
    let s = plain_bounds c.args.b.now in
    ended_whole (trees c.loop-made.all.items) (c.args.most - c.loop-made.made) s (plain_coming c.loop-made.coming) (values c.args.most s (first s))
    (ap plain_coming c.in-Ended.is) c.loop-made.invariant.value

pub loop-made-preserved : goal.loop-made-preserved
loop-made-preserved c =
    let s = plain_bounds c.args.b.now in
    let e = c.in_ok-num-in-Value.field-0 in
    let a : c.push.new.self.items ≡ c.loop-made.all.items ++ e ∷ [] = search rules in
    let w : e ≡ num c.in-Value.v = search rules in
    record {
      value = value_made c.loop-made.all.items c.push.new.self.items c.args.most c.loop-made.made s c.in-Value.v (plain_coming c.loop-made.coming) (plain_coming c.following-coming.result)
          e (values c.args.most s (first s)) c.loop-made-test.true a (ap plain w) (ap plain_coming c.in-Value.is) c.following-coming.ensures c.loop-made.invariant.value;
      passed = λ ms. next_from ms c.loop-made.all.items c.push.new.self.items e (c.loop-made.invariant.passed ms) (subst (IsFrom ms) (sym w) tt) a;
    }

pub returns-clause-value : goal.returns-clause-value
returns-clause-value c =
    let s = plain_bounds c.args.b.now in
    all_made (trees c.loop-made.all.items) (c.args.most - c.loop-made.made) s (plain_coming c.loop-made.coming) (values c.args.most s (first s))
    (omega (arith, c.loop-made-test.false)) c.loop-made.invariant.value
