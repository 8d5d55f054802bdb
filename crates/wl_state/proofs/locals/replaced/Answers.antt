use Rattle.std.proofs.Common.{◌≡◌, List, true, length, take, sym, ap, ap₂, ◌∙◌, subst}
use Rattle.std.proofs.lemmas.List.{length-take-le}
use Rattle.std.specs.List.{All, list_all}
use Rattle.wl_expr.specs.Stamped.{Stamped, plain}
use Rattle.wl_shape.specs.Elements.{is_name}
use Rattle.wl_state.specs.Honest.{HonestIn}
use Rattle.wl_state.specs.Played.{Makes, trees}
use Rattle.wl_state.proofs.LocalParts.{honest_values, names_at, replaced_honest, replaced_is, symbols_are, values_at, values_fewer}
use Rattle.wl_state.proofs.Matches.{filled_makes}
use Rattle.wl_state.proofs.locals.replaced.Goals as goal

pub replace-requires-clause-symbols : goal.replace-requires-clause-symbols
replace-requires-clause-symbols c =
    let ls = c.args.locals.now in
    let vs = c.as_slice-given.ensures.value ∙ c.in_ok-values.ensures in
    let cut = c.as_slice.ensures.value ∙ c.truncate.ensures.items ∙ ap₂ (λ n (us : List Stamped). take n us) (ap length vs) c.in_ok-names.ensures in
    subst (λ (us : List Stamped). list_all is_name (trees us) ≡ true) (sym cut) (symbols_are (length (values_at ls)) ls c.requires.symbols)

pub replace-requires-clause-lengths : goal.replace-requires-clause-lengths
replace-requires-clause-lengths c =
    let ls = c.args.locals.now in
    let vs = c.as_slice-given.ensures.value ∙ c.in_ok-values.ensures in
    let cut = c.as_slice.ensures.value ∙ c.truncate.ensures.items ∙ ap₂ (λ n (us : List Stamped). take n us) (ap length vs) c.in_ok-names.ensures in
    ap length cut ∙ length-take-le (length (values_at ls)) (names_at ls) (values_fewer ls) ∙ sym (ap length vs)

pub returns-clause-made : goal.returns-clause-made
returns-clause-made c =
    let ls = c.args.locals.now in
    let vs = c.as_slice-given.ensures.value ∙ c.in_ok-values.ensures in
    let cut = c.as_slice.ensures.value ∙ c.truncate.ensures.items ∙ ap₂ (λ n (us : List Stamped). take n us) (ap length vs) c.in_ok-names.ensures in
    subst (λ t. Makes t c.replace.result) (replaced_is (plain c.args.body.now) ls _ _ c.requires.symbols cut vs) (filled_makes _ _ c.replace.ensures.filled)

pub returns-clause-honest : goal.returns-clause-honest
returns-clause-honest c = λ a h w.
    replaced_honest a c.args.body.now c.as_slice-given.result.now c.replace.result c.replace.ensures.passed h
    (subst (All (HonestIn a)) (sym (c.as_slice-given.ensures.value ∙ c.in_ok-values.ensures)) (honest_values a c.args.locals.now w))
