use Rattle.std.proofs.Common.{rules, ◌≡◌, ◌<◌, ◌+◌, ◌/◌, ◌++◌, ◌∷◌, [], length, sym, ap, ◌∙◌, subst, arith}
use Rattle.std.proofs.lemmas.List.{length-map}
use Rattle.wl_expr.specs.Stamped.{plain}
use Rattle.wl_expr.specs.Tree.{IsWithinLimits}
use Rattle.wl_lists.specs.Answers.{trees}
use Rattle.wl_lists.specs.Partitions.{chunk, chunks}
use Rattle.wl_lists.proofs.Chunks.{part_within}
use Rattle.wl_lists.proofs.Faults.{fault_passed_on}
use Rattle.wl_lists.proofs.Makings.{next_from, place_made, place_large}
use Rattle.wl_lists.proofs.partitions.chunks.Goals as goal

pub chunk-requires : goal.chunk-requires
chunk-requires c = part_within c.loop-k.k c.args.size (length c.args.elements.now) c.loop-k-test.true

pub returns-in_err-part-clause-large : goal.returns-in_err-part-clause-large
returns-in_err-part-clause-large c = λ l.
    let es = c.args.elements.now in
    let h = plain c.args.head.now in
    let g = chunk h c.args.size (trees es) in
    let i = c.loop-k.k in
    let w = fault_passed_on c.in_err-part.field-0.0 c.chunk.result c.from_residual.result c.in_err-part.was c.from_residual.ensures.1 l in
    let p : i ≡ 0 + i = omega arith in
    let t : i < length (trees es) / c.args.size = subst (λ n. i < n / c.args.size) (sym (length-map es plain)) c.loop-k-test.true in
    place_large g (chunks h c.args.size (trees es)) c.loop-k.all.items 0 i (length (trees es) / c.args.size) c.loop-k.invariant.value t (subst (λ k. ¬ IsWithinLimits (g k)) p (c.chunk.ensures.made.large w))

pub loop-k-preserved : goal.loop-k-preserved
loop-k-preserved c =
    let es = c.args.elements.now in
    let h = plain c.args.head.now in
    let g = chunk h c.args.size (trees es) in
    let i = c.loop-k.k in
    let p : i ≡ 0 + i = omega arith in
    let t : i < length (trees es) / c.args.size = subst (λ n. i < n / c.args.size) (sym (length-map es plain)) c.loop-k-test.true in
    let a : c.push.new.self.items ≡ c.loop-k.all.items ++ c.in_ok-part.part ∷ [] = search rules in
    record {
      value = place_made g (chunks h c.args.size (trees es)) c.loop-k.all.items c.push.new.self.items 0 i (length (trees es) / c.args.size) c.in_ok-part.part c.loop-k.invariant.value t a (c.in_ok-part.ensures.made.tree ∙ ap g p);
      passed = λ ms f q. next_from ms c.loop-k.all.items c.push.new.self.items c.in_ok-part.part (c.loop-k.invariant.passed ms f q) (c.in_ok-part.ensures.passed ms f q) a;
    }
