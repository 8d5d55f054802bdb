use Rattle.std.proofs.Common.{Bor, List, ℕ, Ok, None, ◌≡◌, option_map, sym, ap, ◌∙◌, subst}
use Rattle.wl_expr.specs.Stamped as stamped
use Rattle.wl_expr.specs.Tree.{text}
use Rattle.wl_rules.specs.Entries.{Definitions, message}
use Rattle.wl_state.specs.Operands.{as_message}
use Rattle.wl_state.specs.Played.{Honest, trees}
use Rattle.wl_semantics.specs.Prog.{entry_of}
use Rattle.wl_state.proofs.Moves.{looked_same}
use Rattle.wl_state.proofs.Playing.{plays_bind, plays_done_is}
use Rattle.wl_state.proofs.RowParts.{row_stays, row_none, row_made, row_at, if_ok_more}
use Rattle.wl_state.proofs.HistoryRowParts.{text_by, message_name_row-by, made_text, unmade_text}
use Rattle.wl_state.proofs.evaluator.Evaluator.message_name_row.Goals as goal

pub returns-in_default-clause-played : goal.returns-in_default-clause-played
returns-in_default-clause-played g c =
    row_stays _ _ (message_name_row-by (trees c.args.args.now) ∙ ap text_by (sym c.name_and_text.ensures.value ∙ ap (option_map (λ (p : Bor (List ℕ) × Bor (List ℕ)). as_message (p.0.now, p.1.now))) c.in_default.is))

pub returns-in-None-clause-played : goal.returns-in-None-clause-played
returns-in-None-clause-played g c =
    let x = c.in-Some.name.now in
    let t = c.in-Some.tag.now in
    let k = c.args.self.now in
    let k1 = c.attributes_of.new.self in
    let e = c.in_ok-_looked.ensures.looked in
    let q = ap (λ (f : Definitions). message (f x) t) (sym (looked_same x k k1 e)) ∙ unmade_text _ c.in-None.ensures.made in
    row_at _ _ k (Ok None) k1 (message_name_row-by (trees c.args.args.now) ∙ ap text_by (sym c.in-Some.ensures.value)) (row_none _ k k1 (plays_bind (entry_of x) _ e (plays_done_is (ap (option_map text) q))))

pub given-requires : goal.given-requires
given-requires g c =
    let k1 = c.attributes_of.new.self in
    let m = made_text _ c.in-Some-stored_text.made c.in-Some-stored_text.ensures.made in
    record { honest = if_ok_more c.in-Some-stored_text.made (λ z. z ≡ stamped.text m.0) (Honest k1) (λ z q. subst (Honest k1) (sym q) tt) m.2.1 }

pub returns-in-Some-stored_text-clause-played : goal.returns-in-Some-stored_text-clause-played
returns-in-Some-stored_text-clause-played g c =
    let x = c.in-Some.name.now in
    let t = c.in-Some.tag.now in
    let k = c.args.self.now in
    let k1 = c.attributes_of.new.self in
    let e = c.in_ok-_looked.ensures.looked in
    let m = made_text _ c.in-Some-stored_text.made c.in-Some-stored_text.ensures.made in
    let q = ap (λ (f : Definitions). message (f x) t) (sym (looked_same x k k1 e)) ∙ m.1 in
    row_at _ _ k c.given.result c.given.new.self (message_name_row-by (trees c.args.args.now) ∙ ap text_by (sym c.in-Some.ensures.value))
    (row_made _ (text m.0) k k1 c.given.result c.given.new.self (plays_bind (entry_of x) _ e (plays_done_is (ap (option_map text) q))) (c.given.ensures.played (text m.0) m.2.0))
