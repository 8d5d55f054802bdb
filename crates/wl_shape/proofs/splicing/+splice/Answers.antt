use Rattle.std.proofs.Common.{rules, ◌≡◌, ◌++◌, ◌∷◌, [], sym, ap, ◌∙◌, subst}
use Rattle.std.proofs.lemmas.List.{map-append}
use Rattle.std.specs.Prelude.{List, OnOk}
use Rattle.wl_expr.specs.Passed.{IsFrom}
use Rattle.wl_expr.specs.Stamped.{plain}
use Rattle.wl_expr.specs.Tree.{Tree}
use Rattle.wl_shape.specs.Answers.{trees}
use Rattle.wl_shape.proofs.Splices.{spliced_inside, spliced_alone, next_spliced}
use Rattle.wl_shape.proofs.splicing.+splice.Goals as goal

pub splice-returns-in-Some-clause-value : goal.splice-returns-in-Some-clause-value
splice-returns-in-Some-clause-value t c =
    subst (λ (us : List Tree). OnOk c.splice_all.result (trees c.splice_all.new.all.items ≡ trees c.args.all.now.items ++ us))
    (sym (spliced_inside (plain c.args.head.now) (plain c.args.e.now) (trees c.in-Some.elements.now) c.in-Some.ensures.value)) c.splice_all.ensures.value

pub splice-returns-in_ok-push-in-None-clause-value : goal.splice-returns-in_ok-push-in-None-clause-value
splice-returns-in_ok-push-in-None-clause-value t c =
    let before = c.args.all.now.items in
    let a : c.push.new.self.items ≡ before ++ c.args.e.now ∷ [] = search rules in
    ap trees a ∙ map-append plain before (c.args.e.now ∷ [])
    ∙ ap (λ (us : List Tree). trees before ++ us) (sym (spliced_alone (plain c.args.head.now) (plain c.args.e.now) c.in-None.ensures.value))

pub splice_all-loop-arg-preserved : goal.splice_all-loop-arg-preserved
splice_all-loop-arg-preserved t c =
    let es = c.args.args.now in
    let i = c.loop-arg.arg-index in
    let e = c.arg-item.result in
    record {
      value = next_spliced (plain c.args.head.now) es i e _ (trees c.loop-arg.all.items) (trees c.splice.new.all.items) c.loop-arg-test.true c.arg-item.is c.loop-arg.invariant.value c.in_ok-splice.ensures.value;
      passed = λ ms f g. c.in_ok-splice.ensures.passed ms (c.loop-arg.invariant.passed ms f g) (subst (IsFrom ms) (sym c.arg-item.is) (g i e c.loop-arg-test.true));
    }
