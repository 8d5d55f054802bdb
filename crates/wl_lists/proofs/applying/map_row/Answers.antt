use Rattle.std.proofs.Common.{rules, ◌≡◌, ◌∷◌, [], Some, sym, ap, ◌∙◌, subst}
use Rattle.wl_expr.proofs.Items.{two_items}
use Rattle.wl_expr.specs.Stamped.{plain}
use Rattle.wl_lists.specs.Answers.{IsAnswer, trees}
use Rattle.wl_lists.specs.Functions.{each_applied, map_row, mapped}
use Rattle.wl_lists.specs.Nodes.{node_of}
use Rattle.wl_lists.proofs.applying.map_row.Goals as goal

pub returns-in-Some-clause-answer : goal.returns-in-Some-clause-answer
returns-in-Some-clause-answer c =
    let f = c.f-item.result in
    let e = c.e-item.result in
    let h = plain c.in-Some.head.now in
    let es = c.in-Some.elements.now in
    let both : c.args.args.now ≡ f ∷ e ∷ [] = search (rules, two_items) in
    let seen : Some (h, trees es) ≡ node_of (plain e) = search rules in
    subst (λ a. IsAnswer a c.give_elements.result)
    (sym (ap (λ xs. map_row (trees xs)) both ∙ ap (mapped (plain f) (plain e)) (sym seen)))
    (c.give_elements.ensures.answer (each_applied (plain f) (trees es)) c.each_applied.ensures.value c.each_applied.ensures.large)
