use Rattle.std.proofs.Common.{rules, ◌≡◌, ◌++◌, ◌∷◌, [], subst, sym}
use Rattle.wl_expr.specs.Passed.{IsFrom}
use Rattle.wl_lists.specs.PartsInside.{once}
use Rattle.wl_lists.proofs.Makings.{next_made, next_from}
use Rattle.wl_lists.proofs.parts.each_once.Goals as goal

pub loop-index-preserved : goal.loop-index-preserved
loop-index-preserved c =
    let es = c.args.indices.now in
    let at = c.loop-index.index-index in
    let made = c.in_ok-once.field-0 in
    let a : c.push.new.self.items ≡ c.loop-index.all.items ++ made ∷ [] = search rules in
    record {
      value = next_made once es c.loop-index.all.items c.push.new.self.items at c.index-item.result made c.loop-index.invariant.value c.loop-index-test.true c.index-item.is a c.in_ok-once.ensures.value;
      passed = λ ms f. next_from ms c.loop-index.all.items c.push.new.self.items made (c.loop-index.invariant.passed ms f)
          (c.in_ok-once.ensures.passed ms (subst (IsFrom ms) (sym c.index-item.is) (f at c.index-item.result c.loop-index-test.true))) a;
    }
