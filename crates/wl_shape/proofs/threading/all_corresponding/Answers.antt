use Rattle.std.proofs.Common.{rules, ◌≡◌, ◌++◌, ◌∷◌, [], sym, subst}
use Rattle.wl_expr.specs.Passed.{IsFrom}
use Rattle.wl_shape.specs.Shape.{corresponding}
use Rattle.wl_shape.proofs.Threads.{next_made, next_from}
use Rattle.wl_shape.proofs.threading.all_corresponding.Goals as goal

pub loop-arg-preserved : goal.loop-arg-preserved
loop-arg-preserved c =
    let es = c.args.args.now in
    let i = c.loop-arg.arg-index in
    let e = c.arg-item.result in
    let made = c.corresponding.result.now in
    let a : c.push.new.self.items ≡ c.loop-arg.all.items ++ made ∷ [] = search rules in
    record {
      value = next_made (corresponding c.args.k) es c.loop-arg.all.items c.push.new.self.items i e made c.loop-arg.invariant.value c.loop-arg-test.true c.arg-item.is a c.corresponding.ensures.value;
      passed = λ ms f. next_from ms c.loop-arg.all.items c.push.new.self.items made (c.loop-arg.invariant.passed ms f) (c.corresponding.ensures.passed ms (subst (IsFrom ms) (sym c.arg-item.is) (f i e c.loop-arg-test.true))) a;
    }
