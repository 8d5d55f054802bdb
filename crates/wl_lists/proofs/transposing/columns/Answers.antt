use Rattle.std.proofs.Common.{rules, ◌≡◌, ◌+◌, ◌++◌, ◌∷◌, [], ap, ◌∙◌, subst, arith}
use Rattle.wl_expr.specs.Tree.{IsWithinLimits}
use Rattle.wl_lists.specs.Answers.{trees}
use Rattle.wl_lists.specs.Partitions.{column}
use Rattle.wl_lists.specs.Tabulated.{tabulated}
use Rattle.wl_lists.proofs.Faults.{fault_passed_on}
use Rattle.wl_lists.proofs.Makings.{next_from, place_made, place_large}
use Rattle.wl_lists.proofs.transposing.columns.Goals as goal

pub returns-in_err-column-clause-large : goal.returns-in_err-column-clause-large
returns-in_err-column-clause-large c = λ l.
    let g = column (trees c.args.rows.now) in
    let n = c.args.count in
    let i = c.loop-k.k in
    let w = fault_passed_on c.in_err-column.field-0.0 c.column.result c.from_residual.result c.in_err-column.was c.from_residual.ensures.1 l in
    let p : i ≡ 0 + i = omega arith in
    place_large g (tabulated g 0 n) c.loop-k.all.items 0 i n c.loop-k.invariant.value c.loop-k-test.true (subst (λ k. ¬ IsWithinLimits (g k)) p (c.column.ensures.made.large w))

pub loop-k-preserved : goal.loop-k-preserved
loop-k-preserved c =
    let g = column (trees c.args.rows.now) in
    let n = c.args.count in
    let i = c.loop-k.k in
    let p : i ≡ 0 + i = omega arith in
    let a : c.push.new.self.items ≡ c.loop-k.all.items ++ c.in_ok-column.column ∷ [] = search rules in
    record {
      value = place_made g (tabulated g 0 n) c.loop-k.all.items c.push.new.self.items 0 i n c.in_ok-column.column c.loop-k.invariant.value c.loop-k-test.true a (c.in_ok-column.ensures.made.tree ∙ ap g p);
      passed = λ ms f. next_from ms c.loop-k.all.items c.push.new.self.items c.in_ok-column.column (c.loop-k.invariant.passed ms f) (c.in_ok-column.ensures.passed ms f) a;
    }
