use Rattle.std.proofs.Common.{◌+◌, List, Option, Some, drop, sym, ap, ◌∙◌, subst}
use Rattle.std.specs.Prelude.{option_map}
use Rattle.wl_expr.specs.Passed.{IsFrom}
use Rattle.wl_expr.specs.Stamped.{Stamped}
use Rattle.wl_algebra.specs.Answers.{trees}
use Rattle.wl_algebra.specs.Sums.{Sum, collected}
use Rattle.wl_algebra.specs.SumsInside.{plain_sum}
use Rattle.wl_algebra.proofs.Splits.{next_of}
use Rattle.wl_algebra.proofs.Terms.{overflow_stays}
use Rattle.wl_algebra.proofs.sums.collected.Goals as goal

pub returns-in-None-clause-value : goal.returns-in-None-clause-value
returns-in-None-clause-value c =
    let rest = trees (drop (c.loop-arg.arg-index + 1) c.args.args.now) in
    let s = plain_sum c.loop-arg.sum in
    sym (c.loop-arg.invariant.value
    ∙ ap (λ (us : List Stamped). collected (Some s) (trees us)) (next_of c.args.args.now c.loop-arg.arg-index c.arg-item.result c.loop-arg-test.true c.arg-item.is)
    ∙ ap (λ (o : Option Sum). collected o rest) (sym c.in_ok-more.ensures.value ∙ ap (option_map plain_sum) c.in-None.is)
    ∙ overflow_stays rest)

pub loop-arg-preserved : goal.loop-arg-preserved
loop-arg-preserved c =
    let rest = trees (drop (c.loop-arg.arg-index + 1) c.args.args.now) in
    let s = plain_sum c.loop-arg.sum in
    record {
      value = c.loop-arg.invariant.value
          ∙ ap (λ (us : List Stamped). collected (Some s) (trees us)) (next_of c.args.args.now c.loop-arg.arg-index c.arg-item.result c.loop-arg-test.true c.arg-item.is)
          ∙ ap (λ (o : Option Sum). collected o rest) (sym c.in_ok-more.ensures.value ∙ ap (option_map plain_sum) c.in-Some.is);
      passed = λ ms h. rw c.in-Some.is at (c.in_ok-more.ensures.passed ms (c.loop-arg.invariant.passed ms h) (subst (IsFrom ms) (sym c.arg-item.is) (h c.loop-arg.arg-index c.arg-item.result c.loop-arg-test.true)));
    }
