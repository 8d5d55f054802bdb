use Rattle.std.proofs.Common.{◌≡◌, ◌<◌, ◌≤◌, ◌+◌, ◌||◌, ◌&&◌, [], None, Some, List, length, drop, false, true, sym, ap, ◌∙◌, subst, arith}
use Rattle.std.proofs.lemmas.List.Elements.{All-nil}
use Rattle.std.specs.List.{All}
use Rattle.std.specs.Prelude.{IfSome, option_map}
use Rattle.wl_expr.specs.Passed.{IsFrom}
use Rattle.wl_expr.specs.Same.{is_name_among}
use Rattle.wl_expr.specs.Stamped.{Stamped, plain}
use Rattle.wl_expr.specs.Tree.{symbol}
use Rattle.wl_expr.specs.Words.{Name}
use Rattle.wl_shape.specs.Entering.{put_values}
use Rattle.wl_shape.specs.Fill.{names, reached}
use Rattle.wl_shape.specs.Given.{given_tree, given_values}
use Rattle.wl_shape.specs.Held.{Entry, IsReady, ValuesFrom, found, put_value, value_tree, values_in}
use Rattle.wl_shape.specs.Names.{has_name}
use Rattle.wl_shape.specs.declared.values.Values.{Values}
use Rattle.wl_shape.proofs.Faults.{fault_passed_on}
use Rattle.wl_shape.proofs.Holdings.{empty_ready}
use Rattle.wl_shape.proofs.Preparing.{all_given, are_reached, large_given, none_given, put_given}
use Rattle.wl_shape.proofs.Renamings.{last_put, next_put, next_unput}
use Rattle.wl_shape.proofs.filling.prepared.Goals as goal
use Rattle.wl_shape.proofs.filling.prepared.Goals.{in-Some+in_ok-value_of+in_ok-put, in_default}

pub loop-name-init : goal.loop-name-init
loop-name-init c =
    let es = c.as_slice-name-items.result.now in
    let g = c.args.given in
    let e : c.new-values.result.map.entries ≡ [] = c.new-values.ensures in
    record {
      value = λ x. put_given g es 0 (λ y. None) (values_in c.new-values.result) x (ap (λ (us : List Entry). found us (symbol x)) (sym e));
      ready = λ h. empty_ready c.new-values.result e;
      passed = λ ms f. subst (All (λ (p : Entry). IsFrom ms p.1.value.tree)) (sym e) (All-nil (λ (p : Entry). IsFrom ms p.1.value.tree));
      none = λ n. e;
    }

pub returns-in_err-tree-clause-large : goal.returns-in_err-tree-clause-large
returns-in_err-tree-clause-large c = λ l.
    let w = fault_passed_on c.in_err-tree.field-0.0 c.tree.result c.from_residual-in_err-tree.result c.in_err-tree.was c.from_residual-in_err-tree.ensures.1 l in
    let u = plain c.args.body.now in
    let es = c.as_slice-name-items.result.now in
    large_given c.args.given u es c.loop-name.name-index c.name-item.result c.loop-name-test.true c.name-item.is
    (are_reached c.add_names.new.names.keys es c.in_ok-met.met.keys u c.as_slice-name-items.ensures.keys c.in_ok-met.ensures) (c.tree.ensures.large w)

pub loop-name-preserved : goal.loop-name-preserved
loop-name-preserved c =
    let g = c.args.given in
    let u = plain c.args.body.now in
    let es = c.as_slice-name-items.result.now in
    let i = c.loop-name.name-index in
    let e = c.name-item.result in
    let l = c.loop-name-test.true in
    let p = c.name-item.is in
    let before = values_in c.loop-name.values in
    elim c.match-branch-4.branch [
      | in-Some+in_ok-value_of+in_ok-put w ↦
          let t = w.in-Some.tree in
          let v = w.in_ok-value_of.field-0 in
          let q : Some (plain t) ≡ given_tree g (plain e) = ap (option_map plain) (sym w.in-Some.is) ∙ c.in_ok-tree.ensures.tree in
          record {
            value = λ x. c.loop-name.invariant.value x
                ∙ next_put (given_tree g) es i e (plain t) before (values_in w.put.new.self) l p q (λ y. w.in_ok-put.ensures.value y ∙ ap (λ s. put_value before (plain e) (plain s) y) w.in_ok-value_of.ensures.tree) x
                ∙ ap (λ (s : Values). put_values (drop (i + 1) es) (given_values g) (values_in s) x) (sym w.values-is);
            ready = λ h. subst IsReady (sym w.values-is) (w.in_ok-put.ensures.ready (c.loop-name.invariant.ready h) (w.in_ok-value_of.ensures.known (c.has_scope-known.ensures ∙ h)));
            passed = λ ms f. subst (ValuesFrom ms) (sym w.values-is) (w.in_ok-put.ensures.passed ms (c.loop-name.invariant.passed ms f)
                (subst (IsFrom ms) (sym w.in_ok-value_of.ensures.tree) (subst (λ o. IfSome o (IsFrom ms)) w.in-Some.is (c.in_ok-tree.ensures.passed ms f))));
            none = λ n. absurd (none_given g u (plain t) es i e l p (are_reached c.add_names.new.names.keys es c.in_ok-met.met.keys u c.as_slice-name-items.ensures.keys c.in_ok-met.ensures) n q);
          }
      | in_default w ↦ record {
        value = λ x. c.loop-name.invariant.value x
            ∙ next_unput (given_tree g) es i e before l p (ap (option_map plain) (sym w.in_default.is) ∙ c.in_ok-tree.ensures.tree) x
            ∙ ap (λ (s : Values). put_values (drop (i + 1) es) (given_values g) (values_in s) x) (sym w.values-is);
        ready = λ h. subst IsReady (sym w.values-is) (c.loop-name.invariant.ready h);
        passed = λ ms f. subst (ValuesFrom ms) (sym w.values-is) (c.loop-name.invariant.passed ms f);
        none = λ n. ap (λ (s : Values). s.map.entries) w.values-is ∙ c.loop-name.invariant.none n;
      }
    ]

pub returns-clause-agrees : goal.returns-clause-agrees
returns-clause-agrees c = λ x h.
    let g = c.args.given in
    let u = plain c.args.body.now in
    let es = c.as_slice-name-items.result.now in
    sym (last_put (given_values g) es c.loop-name.name-index (values_in c.loop-name.values) x (omega (arith, c.loop-name-test.false)))
    ∙ sym (c.loop-name.invariant.value x)
    ∙ all_given g u c.add_names.new.names.keys es c.in_ok-met.met.keys x c.as_slice-name-items.ensures.keys c.in_ok-met.ensures
    (λ y. c.in_ok-add_names.ensures y ∙ ap (λ ks. has_name ks y || is_name_among y (names u)) c.new-names.ensures.empty) h
