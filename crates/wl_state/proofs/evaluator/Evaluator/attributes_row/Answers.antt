use Rattle.std.proofs.Common.{Bor, ℕ, List, option_map, map, sym, ap, ◌∙◌, subst}
use Rattle.wl_expr.specs.Tree.{symbol}
use Rattle.wl_expr.specs.Words.{list_of}
use Rattle.wl_rules.specs.Attributes.{AttributeSet, names_of_attributes}
use Rattle.wl_rules.specs.Stored.{definitions}
use Rattle.wl_state.specs.Played.{Makes, trees}
use Rattle.wl_semantics.specs.Prog.{entry_of}
use Rattle.wl_state.proofs.Playing.{plays_bind, plays_done}
use Rattle.wl_state.proofs.RowParts.{row_stays, row_made, row_at, list_honest_symbols}
use Rattle.wl_state.proofs.Symbols.{plain_symbols}
use Rattle.wl_state.proofs.EntryRowParts.{attributes_by, attributes_row-by}
use Rattle.wl_state.proofs.evaluator.Evaluator.attributes_row.Goals as goal

pub returns-in_default-clause-played : goal.returns-in_default-clause-played
returns-in_default-clause-played g c =
    row_stays _ _ (attributes_row-by (trees c.args.args.now) ∙ ap attributes_by (sym c.only_symbol.ensures ∙ ap (option_map (λ (x : Bor (List ℕ)). x.now)) c.in_default.is))

pub given-requires : goal.given-requires
given-requires g c = record { honest = list_honest_symbols c.attributes_of.new.self.store c.as_slice.result.now _ _ (c.as_slice.ensures.value ∙ c.in_ok-symbols.ensures) c.list-made.ensures.node }

pub returns-clause-played : goal.returns-clause-played
returns-clause-played g c =
    let es = trees c.args.args.now in
    let x = c.in-Some.name.now in
    let e = c.in_ok-attributes.ensures in
    let k = c.args.self.now in
    let t = list_of (map symbol (names_of_attributes (definitions k.store x).attributes)) in
    let are = ap trees (c.as_slice.ensures.value ∙ c.in_ok-symbols.ensures) ∙ plain_symbols (names_of_attributes c.in_ok-attributes.attributes) ∙ ap (λ (s : AttributeSet). map symbol (names_of_attributes s)) e.value in
    row_at _ _ _ _ _ (attributes_row-by es ∙ ap attributes_by (sym c.in-Some.ensures))
    (row_made _ t _ _ _ _ (plays_bind (entry_of x) _ e.looked plays_done) (c.given.ensures.played t (subst (λ us. Makes (list_of us) c.list-made.result) are c.list-made.ensures.made)))
