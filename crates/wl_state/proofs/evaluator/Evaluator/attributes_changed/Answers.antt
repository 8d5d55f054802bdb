use Rattle.std.proofs.Common.{Bor, Global, Vec, Ok, Some, option_map, refl, sym, ap, ◌∙◌}
use Rattle.wl_expr.specs.Stamped.{Stamped, plain}
use Rattle.wl_expr.specs.Words.{names_of}
use Rattle.wl_rules.specs.declared.attribute.Attribute.{Attribute}
use Rattle.wl_semantics.specs.EntryRows as rows
use Rattle.wl_state.specs.Operands.{put_all}
use Rattle.wl_state.specs.Played.{trees}
use Rattle.wl_state.proofs.RowParts.{row_stays, row_null, row_at}
use Rattle.wl_state.proofs.EntryRowParts.{changed_by, changed-by, changed_at, changing-unnamed, changing-none, changing-each}
use Rattle.wl_state.proofs.evaluator.Evaluator.attributes_changed.Goals as goal

pub returns-in_default-clause-played : goal.returns-in_default-clause-played
returns-in_default-clause-played g c =
    row_stays _ _ (changed-by c.args.are_in (trees c.args.args.now) ∙ ap (changed_by c.args.are_in) (sym c.two.ensures.value ∙ ap (option_map (λ (p : Bor Stamped × Bor Stamped). (plain p.0.now, plain p.1.now))) c.in_default.is))

pub returns-then-not-are_symbols-clause-played : goal.returns-then-not-are_symbols-clause-played
returns-then-not-are_symbols-clause-played g c =
    let b = c.args.are_in in
    let us = trees c.listed-symbols.result.now in
    row_stays _ _ (changed_at b (trees c.args.args.now) (plain c.in-Some.symbols.now) (plain c.in-Some.attributes.now) us _ c.in-Some.ensures.value c.listed-symbols.ensures refl
    ∙ changing-unnamed (put_all b) us _ (sym c.are_symbols.ensures ∙ c.if-not-are_symbols.true))

pub returns-in_default-named-clause-played : goal.returns-in_default-named-clause-played
returns-in_default-named-clause-played g c =
    let b = c.args.are_in in
    let us = trees c.listed-symbols.result.now in
    let vs = trees c.listed.result.now in
    row_stays _ _ (changed_at b (trees c.args.args.now) (plain c.in-Some.symbols.now) (plain c.in-Some.attributes.now) us vs c.in-Some.ensures.value c.listed-symbols.ensures c.listed.ensures
    ∙ ap (rows.changing (put_all b) (names_of us)) (sym c.in_ok-named.ensures ∙ ap (option_map (λ (v : Vec Attribute Global). v.items)) c.in_default-named.is) ∙ changing-none (put_all b) (names_of us))

pub returns-clause-played : goal.returns-clause-played
returns-clause-played g c =
    let b = c.args.are_in in
    let us = trees c.listed-symbols.result.now in
    let vs = trees c.listed.result.now in
    let ks = c.as_slice.result.now in
    let taken = ap Some c.as_slice.ensures.value ∙ ap (option_map (λ (v : Vec Attribute Global). v.items)) (sym c.in-Some-named.is) ∙ c.in_ok-named.ensures in
    let each = changed_at b (trees c.args.args.now) (plain c.in-Some.symbols.now) (plain c.in-Some.attributes.now) us vs c.in-Some.ensures.value c.listed-symbols.ensures c.listed.ensures
    ∙ changing-each (put_all b) us ks (rows.attributes_in (names_of vs)) (sym c.are_symbols.ensures ∙ c.if-not-are_symbols.false) taken in
    row_at _ _ c.args.self.now (Ok (Some c.in_ok-null.field-0)) c.change_each.new.self each (row_null _ _ _ c.in_ok-null.field-0 c.in_ok-null.ensures c.in_ok-change_each.ensures.played)
