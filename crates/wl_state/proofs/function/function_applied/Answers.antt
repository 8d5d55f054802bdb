use Rattle.std.proofs.Common.{sym, ◌∙◌, subst, arith}
use Rattle.wl_expr.proofs.Items.{one_item, two_items}
use Rattle.wl_expr.specs.Stamped.{plain}
use Rattle.wl_state.specs.Played.{trees}
use Rattle.wl_state.specs.Slots.{IsGiven}
use Rattle.wl_state.proofs.SlotParts.{no_function, one_part, other_form, other_parts, two_parts}
use Rattle.wl_state.proofs.Symbols.{no_node}
use Rattle.wl_state.proofs.function.function_applied.Goals as goal

pub returns-in_default-clause-made : goal.returns-in_default-clause-made
returns-in_default-clause-made c = record {
  tree = no_function (plain c.args.f.now) (trees c.args.args.now) (no_node _ _ _ c.view.ensures.all c.in_default.not-Node);
  large = λ l. cc;
}

pub returns-then-not-is_symbol-clause-made : goal.returns-then-not-is_symbol-clause-made
returns-then-not-is_symbol-clause-made c = record {
  tree = other_form (plain c.args.f.now) (plain c.in-Node.head.now) c.in-Node.parts.now (trees c.args.args.now) c.in-Node.ensures.plain (sym c.is_symbol.ensures ∙ c.if-not-is_symbol.true);
  large = λ l. cc;
}

pub returns-then-parts-eq1-clause-made : goal.returns-then-parts-eq1-clause-made
returns-then-parts-eq1-clause-made c =
    let t = plain c.args.f.now in
    let es = c.in-Node.parts.now in
    let b = c.index-parts-0.result in
    subst (λ o. IsGiven o c.with_arguments.result)
    (one_part t (plain c.in-Node.head.now) es (trees c.args.args.now) c.in-Node.ensures.plain b (sym c.is_symbol.ensures ∙ c.if-not-is_symbol.false) (one_item es b (omega (arith, c.if-parts-eq1.true)) c.index-parts-0.is))
    c.with_arguments.ensures.made

pub returns-then-parts-eq2-clause-made : goal.returns-then-parts-eq2-clause-made
returns-then-parts-eq2-clause-made c =
    let t = plain c.args.f.now in
    let es = c.in-Node.parts.now in
    let a = c.index-parts-0-then-parts-eq2.result in
    let b = c.index-parts-1.result in
    subst (λ o. IsGiven o c.with_names.result)
    (two_parts t (plain c.in-Node.head.now) es (trees c.args.args.now) c.in-Node.ensures.plain a b (sym c.is_symbol.ensures ∙ c.if-not-is_symbol.false) (two_items es a b (omega (arith, c.if-parts-eq2.true)) c.index-parts-0-then-parts-eq2.is c.index-parts-1.is))
    c.with_names.ensures.made

pub returns-clause-made : goal.returns-clause-made
returns-clause-made c = record {
  tree = other_parts (plain c.args.f.now) (plain c.in-Node.head.now) c.in-Node.parts.now (trees c.args.args.now) c.in-Node.ensures.plain (sym c.is_symbol.ensures ∙ c.if-not-is_symbol.false) (λ e. omega (arith, e, c.if-parts-eq1.false)) (λ e. omega (arith, e, c.if-parts-eq2.false));
  large = λ l. cc;
}
