use Rattle.std.proofs.Common.{rules, ◌≡◌, ◌++◌, ◌∷◌, [], sym, subst}
use Rattle.wl_expr.specs.Passed.{IsFrom}
use Rattle.wl_semantics.specs.Elements.{bare}
use Rattle.wl_state.proofs.Shapings.{next_made, next_from}
use Rattle.wl_state.proofs.shaping.all_bare.Goals as goal

pub loop-value-preserved : goal.loop-value-preserved
loop-value-preserved c =
    let es = c.args.values.now in
    let i = c.loop-value.value-index in
    let e = c.value-item.result in
    let made = c.bare.result.now in
    let a : c.push.new.self.items ≡ c.loop-value.all.items ++ made ∷ [] = search rules in
    record {
      value = next_made bare es c.loop-value.all.items c.push.new.self.items i e made c.loop-value.invariant.value c.loop-value-test.true c.value-item.is a c.bare.ensures.value;
      passed = λ ms f. next_from ms c.loop-value.all.items c.push.new.self.items made (c.loop-value.invariant.passed ms f) (c.bare.ensures.passed ms (subst (IsFrom ms) (sym c.value-item.is) (f i e c.loop-value-test.true))) a;
    }
