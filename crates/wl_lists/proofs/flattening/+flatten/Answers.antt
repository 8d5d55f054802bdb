use Rattle.std.proofs.Common.{rules, ◌≡◌, ◌++◌, ◌+◌, List, drop, append_assoc, sym, ap, ◌∙◌, subst}
use Rattle.wl_expr.specs.Passed.{IsFrom}
use Rattle.wl_expr.specs.Stamped.{Stamped, plain, plains, from_list}
use Rattle.wl_expr.specs.Tree.{Tree}
use Rattle.wl_lists.specs.Answers.{trees}
use Rattle.wl_lists.specs.Flattening.{flattened, flattened_in}
use Rattle.wl_lists.proofs.Splits.{next_of}
use Rattle.wl_lists.proofs.flattening.+flatten.Goals as goal

pub put_all-loop-element-preserved : goal.put_all-loop-element-preserved
put_all-loop-element-preserved t c =
    let es = c.args.elements.now in
    let at = c.loop-element.element-index in
    let e = c.element-item.result in
    let h = plain c.args.head.now in
    let n = c.args.levels in
    let before = c.loop-element.all.items in
    let rest = flattened_in h n (plains (from_list (drop (at + 1) es))) in
    let a : trees c.put.new.all.items ≡ trees before ++ flattened h n (plain e) = search rules in
    record {
      value = c.loop-element.invariant.value
          ∙ ap (λ (us : List Stamped). trees before ++ flattened_in h n (plains (from_list us))) (next_of es at e c.loop-element-test.true c.element-item.is)
          ∙ sym (append_assoc (trees before) (flattened h n (plain e)) rest)
          ∙ ap (λ (us : List Tree). us ++ rest) (sym a);
      passed = λ ms f g. c.in_ok-put.ensures.passed ms (c.loop-element.invariant.passed ms f g) (subst (IsFrom ms) (sym c.element-item.is) (g at e c.loop-element-test.true));
    }
