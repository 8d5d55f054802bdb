use Rattle.std.proofs.Common.{◌≡◌, ◌&&◌, ◌++◌, List, None, not, true, false, sym, ap, ◌∙◌, subst}
use Rattle.std.proofs.lemmas.List.Elements.{All-nil}
use Rattle.std.specs.List.{All}
use Rattle.std.specs.Prelude.{is_some}
use Rattle.wl_expr.specs.Passed.{IsFrom}
use Rattle.wl_expr.specs.Same.{is_name_among}
use Rattle.wl_expr.specs.Stamped.{Stamped, plain}
use Rattle.wl_expr.specs.Tree.{symbol}
use Rattle.wl_expr.specs.Words.{Name}
use Rattle.wl_shape.specs.Answers.{trees}
use Rattle.wl_shape.specs.Entering.{OneTooLong, put_values}
use Rattle.wl_shape.specs.Fill.{arriving, inside_of, names, or_else, reached, renamings, without_names}
use Rattle.wl_shape.specs.Held.{Entry, found, values_in}
use Rattle.wl_shape.specs.Names.{has_name, names_in}
use Rattle.wl_shape.proofs.Faults.{fault_passed_on}
use Rattle.wl_shape.proofs.Meetings.{has_name-among}
use Rattle.wl_shape.proofs.Renamings.{AreMet, arriving-met, inside_met, renamings-same}
use Rattle.wl_shape.proofs.renaming.entered.Goals as goal

pub returns-in_err-renamed-clause-large : goal.returns-in_err-renamed-clause-large
returns-in_err-renamed-clause-large c = λ l.
    let w = fault_passed_on c.in_err-renamed.field-0.0 c.renamings.result c.from_residual-in_err-renamed.result c.in_err-renamed.was c.from_residual-in_err-renamed.ensures.1 l in
    let ns = c.args.parameters.now in
    let xs = names_in (trees ns) in
    let vs = values_in c.args.values.now in
    let u = plain c.args.body.now in
    let ms = names_in (trees c.in_ok-met.met.keys) in
    let met : AreMet ms xs vs u = λ x.
    sym (has_name-among c.in_ok-met.met.keys x) ∙ c.in_ok-met.ensures x
    ∙ ap (λ b. b && is_name_among x (reached u)) (c.in_ok-targets.ensures x ∙ ap (λ b. is_some (vs x) && not b) (c.in_ok-shadowed.ensures x ∙ has_name-among ns x)) in
    let before = names_in (trees c.in_ok-arrived.arrived.keys) in
    let after = arriving (reached u) (without_names xs vs) in
    let same : (y : Name) → is_name_among y before ≡ is_name_among y after = λ y.
    sym (has_name-among c.in_ok-arrived.arrived.keys y) ∙ c.in_ok-arrived.ensures y ∙ arriving-met ms xs vs u met y in
    subst (OneTooLong xs) (λ i x. renamings-same before after (names u) xs same x i) (c.renamings.ensures.large w)

pub returns-clause-renamed : goal.returns-clause-renamed
returns-clause-renamed c =
    let ns = c.args.parameters.now in
    let xs = names_in (trees ns) in
    let vs = values_in c.args.values.now in
    let u = plain c.args.body.now in
    let ms = names_in (trees c.in_ok-met.met.keys) in
    let met : AreMet ms xs vs u = λ x.
    sym (has_name-among c.in_ok-met.met.keys x) ∙ c.in_ok-met.ensures x
    ∙ ap (λ b. b && is_name_among x (reached u)) (c.in_ok-targets.ensures x ∙ ap (λ b. is_some (vs x) && not b) (c.in_ok-shadowed.ensures x ∙ has_name-among ns x)) in
    let before = names_in (trees c.in_ok-arrived.arrived.keys) in
    let after = arriving (reached u) (without_names xs vs) in
    let same : (y : Name) → is_name_among y before ≡ is_name_among y after = λ y.
    sym (has_name-among c.in_ok-arrived.arrived.keys y) ∙ c.in_ok-arrived.ensures y ∙ arriving-met ms xs vs u met y in
    λ x. c.in_ok-renamed.ensures.value x ∙ renamings-same before after (names u) xs same x

pub returns-clause-inner : goal.returns-clause-inner
returns-clause-inner c =
    let ns = c.args.parameters.now in
    let xs = names_in (trees ns) in
    let vs = values_in c.args.values.now in
    let rs = values_in c.in_ok-renamed.renamed in
    let u = plain c.args.body.now in
    let ks = c.in_ok-met.met.keys in
    let ms = names_in (trees ks) in
    let met : AreMet ms xs vs u = λ x.
    sym (has_name-among ks x) ∙ c.in_ok-met.ensures x
    ∙ ap (λ b. b && is_name_among x (reached u)) (c.in_ok-targets.ensures x ∙ ap (λ b. is_some (vs x) && not b) (c.in_ok-shadowed.ensures x ∙ has_name-among ns x)) in
    let before = names_in (trees c.in_ok-arrived.arrived.keys) in
    let after = arriving (reached u) (without_names xs vs) in
    let same : (y : Name) → is_name_among y before ≡ is_name_among y after = λ y.
    sym (has_name-among c.in_ok-arrived.arrived.keys y) ∙ c.in_ok-arrived.ensures y ∙ arriving-met ms xs vs u met y in
    let first = values_in c.put_values.new.into in
    inside_met ms xs vs rs u ks ns (values_in c.put_values-2.new.into) met (has_name-among ks) (has_name-among ns)
    (λ x. c.in_ok-renamed.ensures.value x ∙ renamings-same before after (names u) xs same x)
    (λ x. c.in_ok-put_values-2.ensures.value x ∙ ap (λ es. put_values es vs first x) c.as_slice.ensures.keys
    ∙ ap (λ o. or_else (elim (has_name ks x) [ true ↦ vs x | false ↦ None ]) o) (c.in_ok-put_values.ensures.value x
    ∙ ap (λ (es : List Entry). or_else (elim (has_name ns x) [ true ↦ rs x | false ↦ None ]) (found es (symbol x))) c.new-inner.ensures))

pub returns-clause-passed : goal.returns-clause-passed
returns-clause-passed c = λ ms f.
    let r = c.in_ok-renamed.ensures.passed ms in
    let e = subst (All (λ (p : Entry). IsFrom ms p.1.value.tree)) (sym c.new-inner.ensures) (All-nil (λ (p : Entry). IsFrom ms p.1.value.tree)) in
    (r, c.in_ok-put_values-2.ensures.passed ms f (c.in_ok-put_values.ensures.passed ms r e))
