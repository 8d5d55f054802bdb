use Rattle.std.proofs.Common.{rules, ◌≡◌, ◌++◌, ◌∷◌, [], subst, sym}
use Rattle.wl_expr.specs.Passed.{IsFrom}
use Rattle.wl_expr.specs.Stamped.{plain}
use Rattle.wl_lists.specs.Functions.{with_head}
use Rattle.wl_lists.proofs.Faults.{fault_passed_on}
use Rattle.wl_lists.proofs.Makings.{next_made, next_large, next_from}
use Rattle.wl_lists.proofs.applying.all_with_head.Goals as goal

pub returns-in_err-turned-clause-large : goal.returns-in_err-turned-clause-large
returns-in_err-turned-clause-large c = λ l.
    let w = fault_passed_on c.in_err-turned.field-0.0 c.with_head.result c.from_residual-in_err-turned.result c.in_err-turned.was c.from_residual-in_err-turned.ensures.1 l in
    next_large (with_head (plain c.args.head.now)) c.args.elements.now c.loop-element.all.items c.loop-element.element-index c.element-item.result c.loop-element.invariant.value c.loop-element-test.true c.element-item.is (c.with_head.ensures.made.large w)

pub loop-element-preserved : goal.loop-element-preserved
loop-element-preserved c =
    let es = c.args.elements.now in
    let at = c.loop-element.element-index in
    let a : c.push.new.self.items ≡ c.loop-element.all.items ++ c.in_ok-turned.turned ∷ [] = search rules in
    record {
      value = next_made (with_head (plain c.args.head.now)) es c.loop-element.all.items c.push.new.self.items at c.element-item.result c.in_ok-turned.turned c.loop-element.invariant.value c.loop-element-test.true c.element-item.is a c.in_ok-turned.ensures.made.tree;
      passed = λ ms f h. next_from ms c.loop-element.all.items c.push.new.self.items c.in_ok-turned.turned (c.loop-element.invariant.passed ms f h)
          (c.in_ok-turned.ensures.passed ms f (subst (IsFrom ms) (sym c.element-item.is) (h at c.element-item.result c.loop-element-test.true))) a;
    }
