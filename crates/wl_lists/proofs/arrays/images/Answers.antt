use Rattle.std.proofs.Common.{rules, ◌≡◌, ◌+◌, ◌++◌, ◌∷◌, [], ap, ◌∙◌, subst, arith}
use Rattle.wl_expr.specs.Stamped.{plain}
use Rattle.wl_expr.specs.Tree.{IsWithinLimits}
use Rattle.wl_lists.specs.Arrays.{image_at}
use Rattle.wl_lists.specs.Tabulated.{tabulated}
use Rattle.wl_lists.proofs.Faults.{fault_passed_on}
use Rattle.wl_lists.proofs.Heavy.{many_images}
use Rattle.wl_lists.proofs.Makings.{next_from, place_made, place_large}
use Rattle.wl_lists.proofs.arrays.images.Goals as goal

pub returns-then-count-gt-MOST-clause-large : goal.returns-then-count-gt-MOST-clause-large
returns-then-count-gt-MOST-clause-large c = λ l. many_images (plain c.args.f.now) c.args.count (omega arith)

pub returns-in_err-image-clause-large : goal.returns-in_err-image-clause-large
returns-in_err-image-clause-large c = λ l.
    let g = image_at (plain c.args.f.now) in
    let n = c.args.count in
    let i = c.loop-before.before in
    let w = fault_passed_on c.in_err-image.field-0.0 c.image_at.result c.from_residual.result c.in_err-image.was c.from_residual.ensures.1 l in
    let p : i + 1 ≡ 1 + i = omega arith in
    place_large g (tabulated g 1 n) c.loop-before.all.items 1 i n c.loop-before.invariant.value c.loop-before-test.true (subst (λ k. ¬ IsWithinLimits (g k)) p (c.image_at.ensures.made.large w))

pub loop-before-preserved : goal.loop-before-preserved
loop-before-preserved c =
    let g = image_at (plain c.args.f.now) in
    let n = c.args.count in
    let i = c.loop-before.before in
    let p : i + 1 ≡ 1 + i = omega arith in
    let a : c.push.new.self.items ≡ c.loop-before.all.items ++ c.in_ok-image.image ∷ [] = search rules in
    record {
      value = place_made g (tabulated g 1 n) c.loop-before.all.items c.push.new.self.items 1 i n c.in_ok-image.image c.loop-before.invariant.value c.loop-before-test.true a (c.in_ok-image.ensures.made.tree ∙ ap g p);
      passed = λ ms f. next_from ms c.loop-before.all.items c.push.new.self.items c.in_ok-image.image (c.loop-before.invariant.passed ms f) (c.in_ok-image.ensures.passed ms f) a;
    }
