use Rattle.std.proofs.Common.{◌≡◌, ◌++◌, ◌∷◌, [], map, take, sym, ap, ◌∙◌, subst, arith}
use Rattle.std.proofs.lemmas.List.{take_all}
use Rattle.std.specs.Prelude.{option_map, unwrap_or}
use Rattle.wl_expr.proofs.Small.{small_head, small_args}
use Rattle.wl_expr.specs.Stamped.{plain}
use Rattle.wl_expr.specs.Tree.{IsWithinLimits}
use Rattle.wl_shape.specs.Answers.{AllFrom}
use Rattle.wl_shape.specs.Renewed.{IsRenewed}
use Rattle.wl_state.specs.Played.{trees}
use Rattle.wl_semantics.specs.ScopeRows.{with_slots}
use Rattle.wl_state.specs.Slots.{new_or, slot_value}
use Rattle.wl_state.proofs.SlotParts.{each_small, fault_large, fault_renewed, inner_case, leaf_stays, node_case, put_from, put_more, rebuilt_case, slot_case}
use Rattle.wl_state.proofs.Symbols.{no_node}
use Rattle.wl_state.proofs.function.+slots.Goals as goal

-- ---- an expression

pub with_slots-returns-in_default-clause-made : goal.with_slots-returns-in_default-clause-made
with_slots-returns-in_default-clause-made t c = record {
  tree = leaf_stays (plain c.args.f.now) (plain c.args.e.now) (trees c.args.args.now) (no_node _ _ _ c.view.ensures.all c.in_default.not-Node);
  large = λ l. cc;
}

pub with_slots-returns-then-is_inner-clause-made : goal.with_slots-returns-then-is_inner-clause-made
with_slots-returns-then-is_inner-clause-made t c = record {
  tree = inner_case (plain c.args.f.now) (trees c.args.args.now) (plain c.in-Node.head.now) c.in-Node.elements.now (plain c.args.e.now) c.in-Node.ensures.plain (sym c.is_inner.ensures ∙ c.if-is_inner.true);
  large = λ l. cc;
}

pub with_slots-returns-in-Some-clause-made : goal.with_slots-returns-in-Some-clause-made
with_slots-returns-in-Some-clause-made t c =
    let f = plain c.args.f.now in
    let args = trees c.args.args.now in
    let e = plain c.args.e.now in
    subst (λ z. IsRenewed e z c.standing.result)
    (slot_case f args (plain c.in-Node.head.now) c.in-Node.elements.now e c.in-Node.ensures.plain (slot_value f args e c.in-Some.slot) (sym c.is_inner.ensures ∙ c.if-is_inner.false)
    (ap (option_map (slot_value f args e)) (sym c.in-Some.is) ∙ c.slot_in.ensures f e args))
    (c.standing.ensures.made e)

pub with_slots-returns-in_err-new_head-clause-made : goal.with_slots-returns-in_err-new_head-clause-made
with_slots-returns-in_err-new_head-clause-made t c =
    let f = plain c.args.f.now in
    let args = trees c.args.args.now in
    let e = plain c.args.e.now in
    let w =
    node_case f args (plain c.in-Node.head.now) c.in-Node.elements.now e c.in-Node.ensures.plain (sym c.is_inner.ensures ∙ c.if-is_inner.false)
    (ap (option_map (slot_value f args e)) (sym c.in_default-slot_in.is) ∙ c.slot_in.ensures f e args) in
    fault_renewed e (with_slots f args e) c.in_err-new_head.field-0.0 c.with_slots.result c.from_residual.result c.in_err-new_head.was c.from_residual.ensures.1
    (λ l v. c.with_slots.ensures.made.large l (small_head _ _ (subst IsWithinLimits w v)))

pub with_slots-returns-in_err-new-clause-made : goal.with_slots-returns-in_err-new-clause-made
with_slots-returns-in_err-new-clause-made t c =
    let f = plain c.args.f.now in
    let args = trees c.args.args.now in
    let e = plain c.args.e.now in
    let w =
    node_case f args (plain c.in-Node.head.now) c.in-Node.elements.now e c.in-Node.ensures.plain (sym c.is_inner.ensures ∙ c.if-is_inner.false)
    (ap (option_map (slot_value f args e)) (sym c.in_default-slot_in.is) ∙ c.slot_in.ensures f e args) in
    fault_renewed e (with_slots f args e) c.in_err-new.field-0.0 c.with_slots_in.result c.from_residual-in_err-new.result c.in_err-new.was c.from_residual-in_err-new.ensures.1
    (λ l v. c.with_slots_in.ensures.large l (small_args _ _ (subst IsWithinLimits w v)))

pub with_slots-returns-clause-made : goal.with_slots-returns-clause-made
with_slots-returns-clause-made t c =
    let f = plain c.args.f.now in
    let args = trees c.args.args.now in
    let e = plain c.args.e.now in
    let h = c.in-Node.head.now in
    let es = c.in-Node.elements.now in
    let w =
    node_case f args (plain h) es e c.in-Node.ensures.plain (sym c.is_inner.ensures ∙ c.if-is_inner.false) (ap (option_map (slot_value f args e)) (sym c.in_default-slot_in.is) ∙ c.slot_in.ensures f e args) in
    rebuilt_case f args h es e c.in_ok-new_head.new_head c.as_slice.result.now c.rebuilt.result c.in-Node.ensures.plain w c.in_ok-new_head.ensures.made.tree
    (ap (λ us. trees (new_or us es)) c.as_slice.ensures.value ∙ c.in_ok-new.ensures.made) c.rebuilt.ensures.made

-- ---- elements

pub with_slots_in-returns-in_err-new-clause-large : goal.with_slots_in-returns-in_err-new-clause-large
with_slots_in-returns-in_err-new-clause-large t c = λ l s.
    c.with_slots.ensures.made.large (fault_large c.in_err-new.field-0.0 c.with_slots.result c.from_residual.result c.in_err-new.was c.from_residual.ensures.1 l)
    (each_small (with_slots (plain c.args.f.now) (trees c.args.args.now)) c.args.elements.now c.loop-k.k c.index-elements-k.result c.loop-k-test.true c.index-elements-k.is s)

pub with_slots_in-loop-k-preserved : goal.with_slots_in-loop-k-preserved
with_slots_in-loop-k-preserved t c =
    let es = c.args.elements.now in
    let k = c.loop-k.k in
    let e = c.index-elements-k.result in
    let all = c.loop-k.all.items in
    let new = c.in_ok-new.new in
    let a : new_or c.put.new.all.items (take k es ++ e ∷ []) ≡ new_or all (take k es) ++ unwrap_or new e ∷ [] = c.in_ok-put.ensures in
    record {
      made = put_more (with_slots (plain c.args.f.now) (trees c.args.args.now)) es all c.put.new.all.items k e new c.loop-k-test.true c.index-elements-k.is c.in_ok-new.ensures.made.tree a c.loop-k.invariant.made;
      passed = λ ms f g h. put_from ms es all c.put.new.all.items k e new c.loop-k-test.true c.index-elements-k.is a h (c.loop-k.invariant.passed ms f g h) (λ i. c.in_ok-new.ensures.passed ms f g i);
    }

pub with_slots_in-returns-clause-made : goal.with_slots_in-returns-clause-made
with_slots_in-returns-clause-made t c =
    let es = c.args.elements.now in
    let l = c.loop-k in
    let w = take_all l.k es (omega (arith, c.loop-k-test.false)) in
    ap (λ us. trees (new_or l.all.items us)) (sym w) ∙ l.invariant.made ∙ ap (λ us. map (with_slots (plain c.args.f.now) (trees c.args.args.now)) (trees us)) w

pub with_slots_in-returns-clause-passed : goal.with_slots_in-returns-clause-passed
with_slots_in-returns-clause-passed t c = λ ms f g h.
    let es = c.args.elements.now in
    let l = c.loop-k in
    let w = take_all l.k es (omega (arith, c.loop-k-test.false)) in
    subst (λ us. AllFrom ms (new_or l.all.items us)) w (l.invariant.passed ms f g h)
