use Rattle.std.proofs.Common.{◌≡◌, Some, true, length, take, is_some, refl, sym, ap, ◌∙◌, subst, arith}
use Rattle.std.proofs.lemmas.Grind.{common_steps}
use Rattle.std.proofs.lemmas.List.{length-map}
use Rattle.wl_expr.specs.Stamped.{plain}
use Rattle.wl_expr.specs.Words.{names_of}
use Rattle.wl_shape.specs.Given.{DoesNotFit}
use Rattle.wl_shape.specs.Scopes.{function_names}
use Rattle.wl_state.specs.Operands.{listed}
use Rattle.wl_state.specs.Played.{trees}
use Rattle.wl_semantics.specs.ScopeRows.{with_names}
use Rattle.wl_state.proofs.SlotParts.{are_names, fault_given, few_arguments, names_filled, no_function_names}
use Rattle.wl_state.proofs.function.with_names.Goals as goal

pub returns-then-not-are_symbols-clause-made : goal.returns-then-not-are_symbols-clause-made
returns-then-not-are_symbols-clause-made c = record {
  tree = no_function_names (plain c.args.first.now) (plain c.args.body.now) (trees c.args.args.now) (ap (λ us. is_some (names_of us)) (sym c.listed-names.ensures) ∙ sym c.are_symbols.ensures ∙ c.if-not-are_symbols.true);
  large = λ l. cc;
}

pub returns-then-names-args-clause-made : goal.returns-then-names-args-clause-made
returns-then-names-args-clause-made c =
    let t = plain c.args.first.now in
    let ns = c.listed-names.result.now in
    let h : is_some (names_of (listed t)) ≡ true = ap (λ us. is_some (names_of us)) (sym c.listed-names.ensures) ∙ sym c.are_symbols.ensures ∙ c.if-not-are_symbols.false in
    record {
      tree = few_arguments t (plain c.args.body.now) (trees c.args.args.now) h (omega (arith, ap length c.listed-names.ensures, length-map ns plain, length-map c.args.args.now plain));
      large = λ l. cc;
    }

pub replace-requires : goal.replace-requires
replace-requires c = record {
  symbols = (are_names (trees c.listed-names.result.now) (sym c.are_symbols.ensures ∙ c.if-not-are_symbols.false)).symbols;
  lengths = grind (arith, common_steps);
}

pub returns-in_err-filled-clause-made : goal.returns-in_err-filled-clause-made
returns-in_err-filled-clause-made c =
    let t = plain c.args.first.now in
    let b = plain c.args.body.now in
    let es = c.args.args.now in
    let ns = c.listed-names.result.now in
    let h : is_some (names_of (listed t)) ≡ true = ap (λ us. is_some (names_of us)) (sym c.listed-names.ensures) ∙ sym c.are_symbols.ensures ∙ c.if-not-are_symbols.false in
    let w = names_filled t b es (take (length ns) es) ns h c.listed-names.ensures refl (omega arith) in
    fault_given (with_names b (function_names t) (trees es)) c.in_err-filled.field-0.0 c.replace.result c.from_residual.result c.in_err-filled.was c.from_residual.ensures.1
    (λ l. subst DoesNotFit w (c.replace.ensures.filled.large l))

pub returns-clause-made : goal.returns-clause-made
returns-clause-made c =
    let t = plain c.args.first.now in
    let b = plain c.args.body.now in
    let es = c.args.args.now in
    let ns = c.listed-names.result.now in
    let h : is_some (names_of (listed t)) ≡ true = ap (λ us. is_some (names_of us)) (sym c.listed-names.ensures) ∙ sym c.are_symbols.ensures ∙ c.if-not-are_symbols.false in
    let w = names_filled t b es (take (length ns) es) ns h c.listed-names.ensures refl (omega arith) in
    record { tree = ap Some c.in_ok-filled.ensures.filled.is.0 ∙ w; large = λ l. cc }
