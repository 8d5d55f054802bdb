use Rattle.std.proofs.Common.{rules, ◌≡◌, ◌++◌, ◌∷◌, [], subst, sym}
use Rattle.wl_expr.specs.Passed.{IsFrom}
use Rattle.wl_expr.specs.Stamped.{plain}
use Rattle.wl_lists.specs.Functions.{image}
use Rattle.wl_lists.proofs.Faults.{fault_passed_on}
use Rattle.wl_lists.proofs.Makings.{next_made, next_large, next_from}
use Rattle.wl_lists.proofs.applying.each_applied.Goals as goal

pub returns-in_err-image-clause-large : goal.returns-in_err-image-clause-large
returns-in_err-image-clause-large c = λ l.
    let w = fault_passed_on c.in_err-image.field-0.0 c.image.result c.from_residual-in_err-image.result c.in_err-image.was c.from_residual-in_err-image.ensures.1 l in
    next_large (image (plain c.args.f.now)) c.args.elements.now c.loop-element.all.items c.loop-element.element-index c.element-item.result c.loop-element.invariant.value c.loop-element-test.true c.element-item.is (c.image.ensures.made.large w)

pub loop-element-preserved : goal.loop-element-preserved
loop-element-preserved c =
    let es = c.args.elements.now in
    let at = c.loop-element.element-index in
    let a : c.push.new.self.items ≡ c.loop-element.all.items ++ c.in_ok-image.image ∷ [] = search rules in
    record {
      value = next_made (image (plain c.args.f.now)) es c.loop-element.all.items c.push.new.self.items at c.element-item.result c.in_ok-image.image c.loop-element.invariant.value c.loop-element-test.true c.element-item.is a c.in_ok-image.ensures.made.tree;
      passed = λ ms f h. next_from ms c.loop-element.all.items c.push.new.self.items c.in_ok-image.image (c.loop-element.invariant.passed ms f h)
          (c.in_ok-image.ensures.passed ms f (subst (IsFrom ms) (sym c.element-item.is) (h at c.element-item.result c.loop-element-test.true))) a;
    }
