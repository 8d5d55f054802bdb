use Rattle.std.proofs.Common.{rules, ◌≡◌, List, ◌++◌, ◌∷◌, [], arith}
use Rattle.wl_expr.specs.Stamped.{plain}
use Rattle.wl_expr.specs.Tree.{Tree}
use Rattle.wl_lists.specs.Answers.{trees}
use Rattle.wl_lists.specs.Parts.{failure, part_of, single_part}
use Rattle.wl_lists.proofs.Faults.{fault_passed_on}
use Rattle.wl_lists.proofs.Makings.{next_made, next_large, next_from, next_heavy, next_weighed}
use Rattle.wl_lists.proofs.Walks.{walked_on}
use Rattle.wl_lists.proofs.parts.+build.Goals as goal

-- the part at an index, with the further ones inside it
abbrev inside : Tree → List Tree → Tree → Tree
inside e is i = part_of is (single_part e i)

pub parts_among-returns-in_err-part-clause-large : goal.parts_among-returns-in_err-part-clause-large
parts_among-returns-in_err-part-clause-large t c = λ l.
    let g = inside (plain c.args.e.now) (trees c.args.further.now) in
    let w = fault_passed_on c.in_err-part.field-0.0 c.made_once.result c.from_residual.result c.in_err-part.was c.from_residual.ensures.1 l in
    next_large g c.args.indices.now c.loop-index.all.items c.loop-index.index-index c.index-item.result c.loop-index.invariant.value c.loop-index-test.true c.index-item.is (c.made_once.ensures.made.large w)

pub parts_among-returns-then-weight-gt-MAX_WEIGHT-clause-large : goal.parts_among-returns-then-weight-gt-MAX_WEIGHT-clause-large
parts_among-returns-then-weight-gt-MAX_WEIGHT-clause-large t c = λ l.
    let g = inside (plain c.args.e.now) (trees c.args.further.now) in
    next_heavy g c.args.indices.now c.loop-index.all.items c.loop-index.index-index c.loop-index.weight c.weight-weight.result c.index-item.result c.in_ok-part.part c.loop-index.invariant.value c.loop-index-test.true c.index-item.is
    c.in_ok-part.ensures.made.tree c.loop-index.invariant.weighed c.weight-weight.ensures.value (omega arith)

pub parts_among-loop-index-preserved : goal.parts_among-loop-index-preserved
parts_among-loop-index-preserved t c =
    let e = plain c.args.e.now in
    let is = c.args.indices.now in
    let at = c.loop-index.index-index in
    let made = c.in_ok-part.part in
    let a : c.push.new.self.items ≡ c.loop-index.all.items ++ made ∷ [] = search rules in
    record {
      walked = walked_on e (λ u. failure (trees c.args.further.now) u) is at c.index-item.result c.loop-index-test.true c.index-item.is c.loop-index.invariant.walked;
      are_made = c.in_ok-part.ensures.are_made;
      value = next_made (inside e (trees c.args.further.now)) is c.loop-index.all.items c.push.new.self.items at c.index-item.result made c.loop-index.invariant.value c.loop-index-test.true c.index-item.is a c.in_ok-part.ensures.made.tree;
      weighed = next_weighed c.loop-index.all.items c.push.new.self.items c.loop-index.weight c.weight-weight.result made a c.loop-index.invariant.weighed c.weight-weight.ensures.value;
      light = omega arith;
      passed = λ ms f. next_from ms c.loop-index.all.items c.push.new.self.items made (c.loop-index.invariant.passed ms f) (c.in_ok-part.ensures.passed ms f (c.loop-index.invariant.are_passed ms f)) a;
      are_passed = λ ms f. c.in_ok-part.ensures.are_passed ms f (c.loop-index.invariant.are_passed ms f);
    }
