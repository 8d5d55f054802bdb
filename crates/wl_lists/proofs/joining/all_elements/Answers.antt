use Rattle.std.proofs.Common.{rules, ◌≡◌, List, ◌++◌, ◌+◌, drop, append_assoc, sym, ap, ◌∙◌, subst}
use Rattle.std.proofs.lemmas.List.{map-append}
use Rattle.std.proofs.lemmas.List.Elements.{All-append}
use Rattle.wl_expr.specs.Passed.{IsFrom}
use Rattle.wl_expr.specs.Stamped.{Stamped, plain}
use Rattle.wl_expr.specs.Tree.{Tree}
use Rattle.wl_expr.specs.Words.{elements}
use Rattle.wl_lists.specs.Answers.{AllFrom, trees}
use Rattle.wl_lists.specs.Joining.{elements_of_all}
use Rattle.wl_lists.proofs.Splits.{next_of}
use Rattle.wl_lists.proofs.joining.all_elements.Goals as goal

pub loop-arg-preserved : goal.loop-arg-preserved
loop-arg-preserved c =
    let es = c.args.args.now in
    let at = c.loop-arg.arg-index in
    let e = c.arg-item.result in
    let before = c.loop-arg.all.items in
    let more = c.elements.result.now in
    let rest = elements_of_all (trees (drop (at + 1) es)) in
    let a : c.extend.new.all.items ≡ before ++ more = search rules in
    record {
      value = c.loop-arg.invariant.value
          ∙ ap (λ (us : List Stamped). trees before ++ elements_of_all (trees us)) (next_of es at e c.loop-arg-test.true c.arg-item.is)
          ∙ sym (append_assoc (trees before) (elements (plain e)) rest)
          ∙ ap (λ (us : List Tree). us ++ rest) (ap (λ (us : List Tree). trees before ++ us) (sym c.elements.ensures.value) ∙ sym (ap trees a ∙ map-append plain before more));
      passed = λ ms f. subst (AllFrom ms) (sym a) (All-append (IsFrom ms) before more (c.loop-arg.invariant.passed ms f) (c.elements.ensures.passed ms (subst (IsFrom ms) (sym c.arg-item.is) (f at e c.loop-arg-test.true))));
    }
