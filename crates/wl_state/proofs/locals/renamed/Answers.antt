use Rattle.std.proofs.Common.{◌≡◌, List, true, sym, ap, ◌∙◌, subst}
use Rattle.std.specs.List.{list_all}
use Rattle.wl_expr.specs.Stamped.{Stamped, plain}
use Rattle.wl_shape.specs.Elements.{is_name}
use Rattle.wl_shape.specs.Fill as fill
use Rattle.wl_shape.specs.Names.{names_in}
use Rattle.wl_state.specs.Played.{Makes, trees}
use Rattle.wl_state.proofs.LocalParts.{all_symbols, renamed_honest, symbols_names}
use Rattle.wl_state.proofs.Matches.{filled_makes}
use Rattle.wl_state.proofs.locals.renamed.Goals as goal

pub rename-requires : goal.rename-requires
rename-requires c = subst (λ (us : List Stamped). list_all is_name (trees us) ≡ true) (sym (c.as_slice.ensures.value ∙ c.in_ok-names.ensures)) (all_symbols c.args.locals.now c.requires.symbols)

pub returns-clause-made : goal.returns-clause-made
returns-clause-made c =
    let ls = c.args.locals.now in
    subst (λ xs. Makes (fill.rename (plain c.args.body.now) xs c.args.n) c.rename.result)
    (ap (λ (us : List Stamped). names_in (trees us)) (c.as_slice.ensures.value ∙ c.in_ok-names.ensures) ∙ symbols_names ls c.requires.symbols)
    (filled_makes _ _ c.rename.ensures.filled)

pub returns-clause-honest : goal.returns-clause-honest
returns-clause-honest c = λ a h. renamed_honest a c.args.body.now c.rename.result c.rename.ensures.passed h
