use Rattle.std.proofs.Common.{rules, ◌≡◌, false, true, not, List, [], ◌∷◌, ◌++◌, ◌+◌, drop, sym, ap, ◌∙◌, subst}
use Rattle.std.specs.List.{list_any}
use Rattle.indexmap.specs.IndexSet.{insert_key}
use Rattle.wl_expr.specs.Passed.{IsFrom}
use Rattle.wl_expr.specs.Same.{first_of_each}
use Rattle.wl_expr.specs.Stamped.{Stamped}
use Rattle.wl_lists.specs.Alike.{alike}
use Rattle.wl_lists.specs.Answers.{trees}
use Rattle.wl_lists.proofs.FirstTimes.{met_already, met_newly, keys_stay, keys_grow}
use Rattle.wl_lists.proofs.Makings.{next_from}
use Rattle.wl_lists.proofs.Splits.{next_of}
use Rattle.wl_lists.proofs.joining.distinct.Goals as goal

pub loop-element-preserved-then-not-is_new : goal.loop-element-preserved-then-not-is_new
loop-element-preserved-then-not-is_new c =
    let es = c.args.elements.now in
    let at = c.loop-element.element-index in
    let e = c.element-item.result in
    let ks = c.loop-element.met.keys in
    let fs = c.loop-element.firsts.items in
    let h : false ≡ not (list_any (alike e) ks) = search rules in
    let k : c.insert.new.self.keys ≡ insert_key alike ks e = search rules in
    record {
      keys = k ∙ keys_stay e ks h ∙ c.loop-element.invariant.keys;
      value = c.loop-element.invariant.value
          ∙ ap (λ (us : List Stamped). first_of_each (trees fs) (trees us)) (next_of es at e c.loop-element-test.true c.element-item.is)
          ∙ met_already e fs (trees (drop (at + 1) es)) (h ∙ ap (λ (us : List Stamped). not (list_any (alike e) us)) c.loop-element.invariant.keys);
      passed = c.loop-element.invariant.passed;
    }

pub loop-element-preserved : goal.loop-element-preserved
loop-element-preserved c =
    let es = c.args.elements.now in
    let at = c.loop-element.element-index in
    let e = c.element-item.result in
    let ks = c.loop-element.met.keys in
    let fs = c.loop-element.firsts.items in
    let rest = trees (drop (at + 1) es) in
    let h : true ≡ not (list_any (alike e) ks) = search rules in
    let k : c.insert.new.self.keys ≡ insert_key alike ks e = search rules in
    let a : c.push.new.self.items ≡ fs ++ e ∷ [] = search rules in
    record {
      keys = k ∙ keys_grow e ks h ∙ ap (λ (us : List Stamped). us ++ e ∷ []) c.loop-element.invariant.keys ∙ sym a;
      value = c.loop-element.invariant.value
          ∙ ap (λ (us : List Stamped). first_of_each (trees fs) (trees us)) (next_of es at e c.loop-element-test.true c.element-item.is)
          ∙ met_newly e fs rest (h ∙ ap (λ (us : List Stamped). not (list_any (alike e) us)) c.loop-element.invariant.keys)
          ∙ ap (λ (us : List Stamped). first_of_each (trees us) rest) (sym a);
      passed = λ ms f. next_from ms fs c.push.new.self.items e (c.loop-element.invariant.passed ms f) (subst (IsFrom ms) (sym c.element-item.is) (f at e c.loop-element-test.true)) a;
    }
