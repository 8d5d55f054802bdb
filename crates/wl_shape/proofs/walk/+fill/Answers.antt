use Rattle.std.proofs.Common.{rules, ◌≡◌, ◌≤◌, ◌<◌, ◌+◌, ◌++◌, ◌∷◌, [], ◌||◌, List, Option, Some, None, length, get_or, take, drop, true, false, refl, sym, ap, ◌∙◌, subst, arith}
use Rattle.std.proofs.lemmas.List.Elements.{All-append, All-drop, All-nil, All-push}
use Rattle.std.proofs.lemmas.Grind.{common_steps}
use Rattle.std.specs.List.{All}
use Rattle.std.specs.declared.alloc.Global.{Global}
use Rattle.std.specs.declared.vec.Vec.{Vec}
use Rattle.wl_expr.proofs.Parts.{depth_arg}
use Rattle.std.specs.Prelude.{IfSome, option_map, unwrap_or}
use Rattle.wl_expr.specs.Passed.{IsFrom}
use Rattle.wl_expr.specs.Same.{is_name_among}
use Rattle.wl_expr.specs.Stamped.{Stamped, plain, plains, from_list}
use Rattle.wl_expr.specs.Tree as tree
use Rattle.wl_expr.specs.Tree.{Tree, Trees, node, none, more, to_list, depth, IsWithinLimits, AreSmall}
use Rattle.wl_expr.specs.Words.{Name}
use Rattle.wl_shape.specs.Answers.{AllFrom, trees}
use Rattle.wl_shape.specs.Fill.{Values, Inside, fill, fill_all, fill_first, fill_formal, fill_formals, fill_scope, inside, parameter}
use Rattle.wl_shape.specs.Held.{Entry, IsReady, found, values_in}
use Rattle.wl_shape.specs.Locals.{symbols_in}
use Rattle.wl_shape.specs.Names.{has_name, names_in}
use Rattle.wl_shape.specs.Renewed.{AreRenewed, IsRenewed, elements_or}
use Rattle.wl_shape.specs.Walks.{AreParameters, fill_elements, has_scope, have_scopes, inside_with, may_be_scope}
use Rattle.wl_shape.proofs.Agreement.{fill-nothing}
use Rattle.wl_shape.specs.Scopes.{parameters}
use Rattle.wl_shape.proofs.Fillings.{IsClear, all-done, all_caught, among_parts, are_parameters, args_fit, both_filled, both_from, changes, each-fits, elements_in_node, elements_in_scope, few_more, length-taken, fault_renews, fault_renews_all, first_is, formal_fits, value_fits, fill_node, formal_filled, from_or, first_small, head_fits, other_formal, renewed_node, scope_among, scope_filled, scope_is, setting_filled, stays, too_long_first, two_large, untouched}
use Rattle.wl_shape.proofs.Holdings.{clear}
use Rattle.wl_shape.proofs.Meetings.{has_name-among, none_is, scope_of_two}
use Rattle.wl_shape.proofs.Members.{or_left, or_right}
use Rattle.wl_shape.proofs.walk.+fill.Goals as goal
use Rattle.wl_shape.proofs.walk.+fill.Goals.{filled_all-in-Some+in_ok-catch_up+in_ok-push, filled_all-in_default, filled_formals-in-Some+in_ok-catch_up+in_ok-push, filled_formals-in_default}

-- ---- filled

pub filled-returns-then-is_empty-clause-made : goal.filled-returns-then-is_empty-clause-made
filled-returns-then-is_empty-clause-made t c =
    let e = plain c.args.e.now in
    let n : c.args.values.now.map.entries ≡ [] = c.is_empty.ensures.0 c.if-is_empty.true in
    let v : values_in c.args.values.now ≡ (λ x. None) = λ i x. found (n i) (tree.symbol x) in
    record { tree = sym (ap (λ vs. fill vs e) v ∙ fill-nothing e); large = λ l. cc }

pub filled-returns-in_err-new_head-in-Node-clause-made : goal.filled-returns-in_err-new_head-in-Node-clause-made
filled-returns-in_err-new_head-in-Node-clause-made t c =
    let vs = values_in c.args.values.now in
    let h = plain c.in-Node.head.now in
    let us = plains (from_list c.in-Node.args.now) in
    let e : node (fill vs h) (fill_elements vs h us) ≡ fill vs (plain c.args.e.now) = fill_node vs h us ∙ ap (fill vs) c.in-Node.ensures.plain in
    fault_renews (plain c.args.e.now) (fill vs (plain c.args.e.now)) c.in_err-new_head-in-Node.field-0.0 c.filled.result c.from_residual-in_err-new_head-in-Node.result c.in_err-new_head-in-Node.was c.from_residual-in_err-new_head-in-Node.ensures.1
    (λ l w. c.filled.ensures.made.large l (head_fits (fill vs h) (fill_elements vs h us) (subst IsWithinLimits (sym e) w)))

pub filled-filled_args-requires : goal.filled-filled_args-requires
filled-filled_args-requires t c =
    let h = plain c.in-Node.head.now in
    let us = plains (from_list c.in-Node.args.now) in (
      omega (arith, ap depth c.in-Node.ensures.plain),
      λ b. c.requires (ap has_scope (sym c.in-Node.ensures.plain) ∙ among_parts (may_be_scope h us) (has_scope h) (have_scopes us) b),
    )

pub filled-returns-in_err-new_args-in-Node-clause-made : goal.filled-returns-in_err-new_args-in-Node-clause-made
filled-returns-in_err-new_args-in-Node-clause-made t c =
    let vs = values_in c.args.values.now in
    let h = plain c.in-Node.head.now in
    let us = plains (from_list c.in-Node.args.now) in
    let e : node (fill vs h) (fill_elements vs h us) ≡ fill vs (plain c.args.e.now) = fill_node vs h us ∙ ap (fill vs) c.in-Node.ensures.plain in
    fault_renews (plain c.args.e.now) (fill vs (plain c.args.e.now)) c.in_err-new_args-in-Node.field-0.0 c.filled_args.result c.from_residual-in_err-new_args-in-Node.result c.in_err-new_args-in-Node.was c.from_residual-in_err-new_args-in-Node.ensures.1
    (λ l w. c.filled_args.ensures.made.large l (args_fit (fill vs h) (fill_elements vs h us) (subst IsWithinLimits (sym e) w)))

pub filled-returns-in_ok-new_args-in-Node-clause-made : goal.filled-returns-in_ok-new_args-in-Node-clause-made
filled-returns-in_ok-new_args-in-Node-clause-made t c =
    let vs = values_in c.args.values.now in
    let h = plain c.in-Node.head.now in
    let us = plains (from_list c.in-Node.args.now) in
    let e : node (fill vs h) (fill_elements vs h us) ≡ fill vs (plain c.args.e.now) = fill_node vs h us ∙ ap (fill vs) c.in-Node.ensures.plain in
    renewed_node c.in-Node.head.now c.in-Node.args.now c.in_ok-new_head-in-Node.new_head c.in_ok-new_args-in-Node.new_args c.rebuilt.result (plain c.args.e.now) (fill vs (plain c.args.e.now)) (fill vs h) (fill_elements vs h us)
    c.in-Node.ensures.plain e c.in_ok-new_head-in-Node.ensures.made.tree c.in_ok-new_args-in-Node.ensures.made.elements c.rebuilt.ensures.made

-- ---- elements

pub filled_all-filled-requires : goal.filled_all-filled-requires
filled_all-filled-requires t c = (omega (arith, depth_arg c.args.args.now c.loop-k.k c.index-args-k.result c.loop-k-test.true, ap (λ e. depth (plain e)) c.index-args-k.is), λ b. c.requires (scope_among c.args.args.now c.loop-k.k c.index-args-k.result c.loop-k-test.true c.index-args-k.is b))

pub filled_all-returns-in_err-e-clause-made : goal.filled_all-returns-in_err-e-clause-made
filled_all-returns-in_err-e-clause-made t c =
    let vs = values_in c.args.values.now in
    let es = c.args.args.now in
    fault_renews_all es (fill_all vs (plains (from_list es))) c.in_err-e.field-0.0 c.filled.result c.from_residual.result c.in_err-e.was c.from_residual.ensures.1
    (λ l s. c.filled.ensures.made.large l (each-fits (fill_all vs) (fill vs) refl (λ t ts. refl) es c.loop-k.k c.index-args-k.result c.loop-k-test.true c.index-args-k.is s))

pub filled_all-loop-k-preserved : goal.filled_all-loop-k-preserved
filled_all-loop-k-preserved t c =
    let vs = values_in c.args.values.now in
    let es = c.args.args.now in
    let k = c.loop-k.k in
    let e = c.index-args-k.result in
    let all = c.loop-k.all.items in
    let l = c.loop-k-test.true in
    let p = c.index-args-k.is in
    elim c.match-branch-2.branch [
      | filled_all-in-Some+in_ok-catch_up+in_ok-push w ↦
          let caught : w.catch_up.new.all.items ≡ all ++ drop (length all) (take k es) = grind (arith, common_steps) in
          let after : c.match-branch-2.all.items ≡ w.catch_up.new.all.items ++ w.in-Some.e ∷ [] = ap (λ (v : Vec Stamped Global). v.items) w.all-is ∙ w.in_ok-push.ensures.items in
          let made : plain w.in-Some.e ≡ fill vs (plain e) = ap (λ o. unwrap_or (option_map plain o) (plain e)) (sym w.in-Some.is) ∙ c.in_ok-e.ensures.made.tree in
          record {
            few = few_more all (take k es) w.catch_up.new.all.items c.match-branch-2.all.items k w.in-Some.e c.loop-k.invariant.few (length-taken es k (omega (arith, l))) caught after;
            value = changes (fill_all vs) (fill vs) refl (λ t ts. refl) es all w.catch_up.new.all.items c.match-branch-2.all.items k e w.in-Some.e _ l p c.loop-k.invariant.few made caught after c.loop-k.invariant.value;
            passed = λ ms f g. all_caught ms es all w.catch_up.new.all.items c.match-branch-2.all.items k w.in-Some.e caught after f (c.loop-k.invariant.passed ms f g) (subst (λ o. IfSome o (IsFrom ms)) w.in-Some.is (c.in_ok-e.ensures.passed ms (subst (IsFrom ms) (sym p) (f k e l)) g));
          }
      | filled_all-in_default w ↦
          let same : plain e ≡ fill vs (plain e) = ap (λ o. unwrap_or (option_map plain o) (plain e)) (sym w.in_default.is) ∙ c.in_ok-e.ensures.made.tree in
          let after : c.match-branch-2.all.items ≡ all = ap (λ (v : Vec Stamped Global). v.items) w.all-is in
          record {
            few = omega (arith, ap length after, c.loop-k.invariant.few);
            value = stays (fill_all vs) (fill vs) refl (λ t ts. refl) es all k e _ l p c.loop-k.invariant.few same c.loop-k.invariant.value
                ∙ ap (λ us. trees (us ++ drop (length us) (take (k + 1) es)) ++ to_list (fill_all vs (plains (from_list (drop (k + 1) es))))) (sym after);
            passed = λ ms f g. subst (AllFrom ms) (sym after) (c.loop-k.invariant.passed ms f g);
          }
    ]

pub filled_all-returns-clause-made : goal.filled_all-returns-clause-made
filled_all-returns-clause-made t c =
    let vs = values_in c.args.values.now in
    let es = c.args.args.now in
    record {
      elements = all-done (fill_all vs) (fill vs) refl (λ t ts. refl) es c.loop-k.all.items (elements_or c.in_ok-renewed.field-0 es) c.loop-k.k (omega (arith, c.loop-k-test.false)) c.in_ok-renewed.ensures c.loop-k.invariant.value;
      large = λ l. cc;
    }

pub filled_all-returns-clause-passed : goal.filled_all-returns-clause-passed
filled_all-returns-clause-passed t c = λ ms f g. subst (AllFrom ms) (sym c.in_ok-renewed.ensures) (All-append (IsFrom ms) c.loop-k.all.items (drop (length c.loop-k.all.items) c.args.args.now) (c.loop-k.invariant.passed ms f g) (All-drop (IsFrom ms) (length c.loop-k.all.items) c.args.args.now f))

-- ---- the elements of a node

pub filled_args-filled_scope-requires : goal.filled_args-filled_scope-requires
filled_args-filled_scope-requires t c =
    let h = plain c.args.head.now in
    let es = c.args.args.now in
    let s = ap (option_map (λ v. trees v.items)) (sym c.in-Some.is) ∙ c.in_ok-names.ensures in
    let q : Some (trees c.as_slice.result.now) ≡ symbols_in (parameters h (plains (from_list es))) = ap (λ us. Some (trees us)) c.as_slice.ensures.value ∙ s in (
      omega arith,
      (
        scope_of_two h es (trees c.as_slice.result.now) q,
        (
          are_parameters h es (trees c.as_slice.result.now) q,
          c.requires (or_left (may_be_scope h (plains (from_list es))) (have_scopes (plains (from_list es))) (scope_is h (plains (from_list es)) (trees c.as_slice.result.now) q)),
        ),
      ),
    )

pub filled_args-filled_all-requires : goal.filled_args-filled_all-requires
filled_args-filled_all-requires t c =
    let us = plains (from_list c.args.args.now) in
    (omega arith, λ b. c.requires (or_right (may_be_scope (plain c.args.head.now) us) (have_scopes us) b))

pub filled_args-returns-in-Some-clause-made : goal.filled_args-returns-in-Some-clause-made
filled_args-returns-in-Some-clause-made t c =
    let h = plain c.args.head.now in
    let es = c.args.args.now in
    let s = ap (option_map (λ v. trees v.items)) (sym c.in-Some.is) ∙ c.in_ok-names.ensures in
    let q : Some (trees c.as_slice.result.now) ≡ symbols_in (parameters h (plains (from_list es))) = ap (λ us. Some (trees us)) c.as_slice.ensures.value ∙ s in
    subst (λ us. AreRenewed es us c.filled_scope.result) (elements_in_scope (values_in c.args.values.now) h (plains (from_list es)) (trees c.as_slice.result.now) q) c.filled_scope.ensures.made

pub filled_args-returns-in-None-clause-made : goal.filled_args-returns-in-None-clause-made
filled_args-returns-in-None-clause-made t c =
    let h = plain c.args.head.now in
    let es = c.args.args.now in
    let s = ap (option_map (λ v. trees v.items)) (sym c.in-None.is) ∙ c.in_ok-names.ensures in
    subst (λ us. AreRenewed es us c.filled_all.result) (elements_in_node (values_in c.args.values.now) h (plains (from_list es)) s) c.filled_all.ensures.made

-- ---- scopes

pub filled_scope-returns-then-not-any_near-clause-made : goal.filled_scope-returns-then-not-any_near-clause-made
filled_scope-returns-then-not-any_near-clause-made t c =
    let v = c.args.values.now in
    let es = c.args.args.now in
    let ns = c.args.names.now in
    let xs = names_in (trees ns) in
    let clear_all : (x : Name) → is_name_among x xs ≡ true → IsClear (values_in v) x = λ x m.
    clear v x c.requires.ready (none_is v.near.keys ns x (sym c.if-not-any_near.ensures) (has_name-among ns x ∙ m)) in
    let i : inside_with c.new-none.result v ≡ inside xs (values_in v) (plains (from_list es)) =
    (λ j. record { renamed = λ x. found (c.new-none.ensures j) (tree.symbol x); inner = values_in v }) ∙ sym (untouched xs (values_in v) (plains (from_list es)) clear_all) in
    subst (λ s. AreRenewed es (fill_scope (values_in v) s (plains (from_list es))) c.filled_pair.result) i c.filled_pair.ensures.made

pub filled_scope-returns-in_err-scope-clause-made : goal.filled_scope-returns-in_err-scope-clause-made
filled_scope-returns-in_err-scope-clause-made t c =
    let vs = values_in c.args.values.now in
    let es = c.args.args.now in
    let xs = names_in (trees c.args.names.now) in
    fault_renews_all es (fill_scope vs (inside xs vs (plains (from_list es))) (plains (from_list es))) c.in_err-scope.field-0.0 c.entered.result c.from_residual.result c.in_err-scope.was c.from_residual.ensures.1
    (λ l. too_long_first vs xs es (get_or es 0 c.index-args-1.result) c.index-args-1.result c.requires.two (first_is es c.index-args-1.result c.requires.two) c.index-args-1.is c.requires.parameters (c.entered.ensures.large l))

pub filled_scope-returns-clause-made : goal.filled_scope-returns-clause-made
filled_scope-returns-clause-made t c =
    let vs = values_in c.args.values.now in
    let es = c.args.args.now in
    let xs = names_in (trees c.args.names.now) in
    subst (λ us. AreRenewed es us c.filled_pair-2.result)
    (scope_filled vs (values_in c.in_ok-scope.scope.renamed) (values_in c.in_ok-scope.scope.inner) xs es (get_or es 0 c.index-args-1.result) c.index-args-1.result c.requires.two (first_is es c.index-args-1.result c.requires.two) c.index-args-1.is c.in_ok-scope.ensures.renamed c.in_ok-scope.ensures.inner)
    c.filled_pair-2.ensures.made

pub filled_scope-returns-clause-passed : goal.filled_scope-returns-clause-passed
filled_scope-returns-clause-passed t c = λ ms a f. let s = c.in_ok-scope.ensures.passed ms f in c.filled_pair-2.ensures.passed ms a f s.0 s.1

-- ---- parameters

pub filled_formals-returns-in_err-e-clause-made : goal.filled_formals-returns-in_err-e-clause-made
filled_formals-returns-in_err-e-clause-made t c =
    let vs = values_in c.args.values.now in
    let rs = values_in c.args.renamed.now in
    let es = c.args.formals.now in
    fault_renews_all es (fill_formals vs rs (plains (from_list es))) c.in_err-e.field-0.0 c.filled_formal.result c.from_residual.result c.in_err-e.was c.from_residual.ensures.1
    (λ l s. c.filled_formal.ensures.made.large l (each-fits (fill_formals vs rs) (fill_formal vs rs) refl (λ t ts. refl) es c.loop-k.k c.index-formals-k.result c.loop-k-test.true c.index-formals-k.is s))

pub filled_formals-loop-k-preserved : goal.filled_formals-loop-k-preserved
filled_formals-loop-k-preserved t c =
    let vs = values_in c.args.values.now in
    let rs = values_in c.args.renamed.now in
    let es = c.args.formals.now in
    let k = c.loop-k.k in
    let e = c.index-formals-k.result in
    let all = c.loop-k.all.items in
    let l = c.loop-k-test.true in
    let p = c.index-formals-k.is in
    elim c.match-branch-2.branch [
      | filled_formals-in-Some+in_ok-catch_up+in_ok-push w ↦
          let caught : w.catch_up.new.all.items ≡ all ++ drop (length all) (take k es) = grind (arith, common_steps) in
          let after : c.match-branch-2.all.items ≡ w.catch_up.new.all.items ++ w.in-Some.e ∷ [] = ap (λ (v : Vec Stamped Global). v.items) w.all-is ∙ w.in_ok-push.ensures.items in
          let made : plain w.in-Some.e ≡ fill_formal vs rs (plain e) = ap (λ o. unwrap_or (option_map plain o) (plain e)) (sym w.in-Some.is) ∙ c.in_ok-e.ensures.made.tree in
          record {
            few = few_more all (take k es) w.catch_up.new.all.items c.match-branch-2.all.items k w.in-Some.e c.loop-k.invariant.few (length-taken es k (omega (arith, l))) caught after;
            value = changes (fill_formals vs rs) (fill_formal vs rs) refl (λ t ts. refl) es all w.catch_up.new.all.items c.match-branch-2.all.items k e w.in-Some.e _ l p c.loop-k.invariant.few made caught after c.loop-k.invariant.value;
            passed = λ ms f g r. all_caught ms es all w.catch_up.new.all.items c.match-branch-2.all.items k w.in-Some.e caught after f (c.loop-k.invariant.passed ms f g r) (subst (λ o. IfSome o (IsFrom ms)) w.in-Some.is (c.in_ok-e.ensures.passed ms (subst (IsFrom ms) (sym p) (f k e l)) g r));
          }
      | filled_formals-in_default w ↦
          let same : plain e ≡ fill_formal vs rs (plain e) = ap (λ o. unwrap_or (option_map plain o) (plain e)) (sym w.in_default.is) ∙ c.in_ok-e.ensures.made.tree in
          let after : c.match-branch-2.all.items ≡ all = ap (λ (v : Vec Stamped Global). v.items) w.all-is in
          record {
            few = omega (arith, ap length after, c.loop-k.invariant.few);
            value = stays (fill_formals vs rs) (fill_formal vs rs) refl (λ t ts. refl) es all k e _ l p c.loop-k.invariant.few same c.loop-k.invariant.value
                ∙ ap (λ us. trees (us ++ drop (length us) (take (k + 1) es)) ++ to_list (fill_formals vs rs (plains (from_list (drop (k + 1) es))))) (sym after);
            passed = λ ms f g r. subst (AllFrom ms) (sym after) (c.loop-k.invariant.passed ms f g r);
          }
    ]

pub filled_formals-returns-clause-made : goal.filled_formals-returns-clause-made
filled_formals-returns-clause-made t c =
    let vs = values_in c.args.values.now in
    let rs = values_in c.args.renamed.now in
    let es = c.args.formals.now in
    record {
      elements = all-done (fill_formals vs rs) (fill_formal vs rs) refl (λ t ts. refl) es c.loop-k.all.items (elements_or c.in_ok-renewed.field-0 es) c.loop-k.k (omega (arith, c.loop-k-test.false)) c.in_ok-renewed.ensures c.loop-k.invariant.value;
      large = λ l. cc;
    }

pub filled_formals-returns-clause-passed : goal.filled_formals-returns-clause-passed
filled_formals-returns-clause-passed t c = λ ms f g r. subst (AllFrom ms) (sym c.in_ok-renewed.ensures) (All-append (IsFrom ms) c.loop-k.all.items (drop (length c.loop-k.all.items) c.args.formals.now) (c.loop-k.invariant.passed ms f g r) (All-drop (IsFrom ms) (length c.loop-k.all.items) c.args.formals.now f))

-- ---- two elements

pub filled_pair-returns-in_err-new_first-clause-made : goal.filled_pair-returns-in_err-new_first-clause-made
filled_pair-returns-in_err-new_first-clause-made t c =
    let vs = values_in c.args.values.now in
    let i = inside_with c.args.renamed.now c.args.inner.now in
    let es = c.args.args.now in
    fault_renews_all es (fill_scope vs i (plains (from_list es))) c.in_err-new_first.field-0.0 c.filled_first.result c.from_residual.result c.in_err-new_first.was c.from_residual.ensures.1
    (λ l s. c.filled_first.ensures.made.large l (first_small vs i es c.index-args-0.result c.requires.two c.index-args-0.is s))

pub filled_pair-returns-in_err-new_body-clause-made : goal.filled_pair-returns-in_err-new_body-clause-made
filled_pair-returns-in_err-new_body-clause-made t c =
    let vs = values_in c.args.values.now in
    let i = inside_with c.args.renamed.now c.args.inner.now in
    let es = c.args.args.now in
    fault_renews_all es (fill_scope vs i (plains (from_list es))) c.in_err-new_body.field-0.0 c.filled.result c.from_residual-in_err-new_body.result c.in_err-new_body.was c.from_residual-in_err-new_body.ensures.1
    (λ l s. c.filled.ensures.made.large l (two_large vs i es c.index-args-0.result c.index-args-1.result c.requires.two c.index-args-0.is c.index-args-1.is s).1)

pub filled_pair-returns-clause-made : goal.filled_pair-returns-clause-made
filled_pair-returns-clause-made t c =
    let vs = values_in c.args.values.now in
    let i = inside_with c.args.renamed.now c.args.inner.now in
    let es = c.args.args.now in
    let a = c.index-args-0.result in
    let b = c.index-args-1.result in
    record {
      elements = both_filled vs i es (elements_or c.in_ok-renewed_pair.field-0 es) a b c.in_ok-new_first.new_first c.in_ok-new_body.new_body c.requires.two c.index-args-0.is c.index-args-1.is (c.in_ok-renewed_pair.ensures.value a b)
          c.in_ok-new_first.ensures.made.tree c.in_ok-new_body.ensures.made.tree;
      large = λ l. cc;
    }

pub filled_pair-returns-clause-passed : goal.filled_pair-returns-clause-passed
filled_pair-returns-clause-passed t c = λ ms h f r i.
    let es = c.args.args.now in
    let a = c.index-args-0.result in
    let b = c.index-args-1.result in
    both_from ms es (elements_or c.in_ok-renewed_pair.field-0 es) a b c.in_ok-new_first.new_first c.in_ok-new_body.new_body c.requires.two c.index-args-0.is c.index-args-1.is (c.in_ok-renewed_pair.ensures.value a b) h
    (λ x. c.in_ok-new_first.ensures.passed ms x f r) (λ y. c.in_ok-new_body.ensures.passed ms y i)

pub filled_first-returns-in_ok-new_formals-in-Node-clause-made : goal.filled_first-returns-in_ok-new_formals-in-Node-clause-made
filled_first-returns-in_ok-new_formals-in-Node-clause-made t c =
    let vs = values_in c.args.values.now in
    let rs = values_in c.args.renamed.now in
    let h = plain c.in-Node.head.now in
    let us = plains (from_list c.in-Node.formals.now) in
    renewed_node c.in-Node.head.now c.in-Node.formals.now c.in_ok-new_head-in-Node.new_head c.in_ok-new_formals-in-Node.new_formals c.rebuilt.result (plain c.args.first.now) (fill_first vs rs (plain c.args.first.now)) (fill vs h) (fill_formals vs rs us)
    c.in-Node.ensures.plain (ap (fill_first vs rs) c.in-Node.ensures.plain) c.in_ok-new_head-in-Node.ensures.made.tree c.in_ok-new_formals-in-Node.ensures.made.elements c.rebuilt.ensures.made

-- ---- `x = v`

pub filled_setting-returns-then-parts-ne2-clause-made : goal.filled_setting-returns-then-parts-ne2-clause-made
filled_setting-returns-then-parts-ne2-clause-made t c = record {
  tree = other_formal (values_in c.args.values.now) (values_in c.args.renamed.now) (plain c.args.head.now) c.args.parts.now c.if-parts-ne2.true;
  large = λ l. cc;
}

pub filled_setting-returns-in_err-new_head-clause-made : goal.filled_setting-returns-in_err-new_head-clause-made
filled_setting-returns-in_err-new_head-clause-made t c =
    let vs = values_in c.args.values.now in
    let rs = values_in c.args.renamed.now in
    let h = plain c.args.head.now in
    let es = c.args.parts.now in
    fault_renews (node h (plains (from_list es))) (fill_formal vs rs (node h (plains (from_list es)))) c.in_err-new_head.field-0.0 c.filled.result c.from_residual.result c.in_err-new_head.was c.from_residual.ensures.1
    (λ l w. c.filled.ensures.made.large l (formal_fits vs rs h es (omega (arith, c.if-parts-ne2.false)) w))

pub filled_setting-returns-in_err-new_value-clause-made : goal.filled_setting-returns-in_err-new_value-clause-made
filled_setting-returns-in_err-new_value-clause-made t c =
    let vs = values_in c.args.values.now in
    let rs = values_in c.args.renamed.now in
    let h = plain c.args.head.now in
    let es = c.args.parts.now in
    fault_renews (node h (plains (from_list es))) (fill_formal vs rs (node h (plains (from_list es)))) c.in_err-new_value.field-0.0 c.filled-2.result c.from_residual-in_err-new_value.result c.in_err-new_value.was c.from_residual-in_err-new_value.ensures.1
    (λ l w. c.filled-2.ensures.made.large l (value_fits vs rs h es c.index-parts-1.result (omega (arith, c.if-parts-ne2.false)) c.index-parts-1.is w))

pub filled_setting-returns-clause-made : goal.filled_setting-returns-clause-made
filled_setting-returns-clause-made t c =
    let vs = values_in c.args.values.now in
    let rs = values_in c.args.renamed.now in
    let h = plain c.args.head.now in
    let es = c.args.parts.now in
    let a = c.index-parts-0.result in
    let b = c.index-parts-1.result in
    let l : length es ≡ 2 = omega (arith, c.if-parts-ne2.false) in
    renewed_node c.args.head.now es c.in_ok-new_head.new_head c.in_ok-new_parts.new_parts c.rebuilt.result (node h (plains (from_list es))) (fill_formal vs rs (node h (plains (from_list es)))) (fill vs h)
    (more (parameter rs (plain a)) (more (fill vs (plain b)) none)) refl (formal_filled vs rs h es a b l c.index-parts-0.is c.index-parts-1.is) c.in_ok-new_head.ensures.made.tree
    (setting_filled vs rs es (elements_or c.in_ok-new_parts.new_parts es) a b c.in_ok-new_name.new_name c.in_ok-new_value.new_value l c.index-parts-0.is c.index-parts-1.is (c.in_ok-new_parts.ensures.value a b)
    c.in_ok-new_name.ensures.tree c.in_ok-new_value.ensures.made.tree) c.rebuilt.ensures.made

pub filled_setting-returns-clause-passed : goal.filled_setting-returns-clause-passed
filled_setting-returns-clause-passed t c = λ ms g h f r.
    let es = c.args.parts.now in
    let a = c.index-parts-0.result in
    let b = c.index-parts-1.result in
    c.rebuilt.ensures.passed ms (from_or ms c.in_ok-new_head.new_head c.args.head.now g (c.in_ok-new_head.ensures.passed ms g f))
    (both_from ms es (elements_or c.in_ok-new_parts.new_parts es) a b c.in_ok-new_name.new_name c.in_ok-new_value.new_value (omega (arith, c.if-parts-ne2.false)) c.index-parts-0.is c.index-parts-1.is (c.in_ok-new_parts.ensures.value a b) h
    (λ x. c.in_ok-new_name.ensures.passed ms r) (λ y. c.in_ok-new_value.ensures.passed ms y f))
