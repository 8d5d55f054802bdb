use Rattle.std.proofs.Common.{rules, ◌≡◌, ◌∷◌, [], Some, sym, ◌∙◌, subst}
use Rattle.wl_expr.proofs.Items.{one_item}
use Rattle.wl_expr.specs.Stamped.{plain}
use Rattle.wl_lists.specs.Answers.{IsAnswer, trees}
use Rattle.wl_lists.specs.Elements.{most_of}
use Rattle.wl_lists.specs.Nodes.{node_of}
use Rattle.wl_lists.proofs.Rows.{node_row, most_given}
use Rattle.wl_lists.proofs.elements.most_row.Goals as goal

pub returns-in-Some-default-len1-up-clause-answer : goal.returns-in-Some-default-len1-up-clause-answer
returns-in-Some-default-len1-up-clause-answer c =
    let e = c.e-item.result in
    let h = plain c.in-Some-default-len1-up.head.now in
    let es = c.in-Some-default-len1-up.field-0-1.now in
    let one : c.args.args.now ≡ e ∷ [] = search (rules, one_item) in
    let seen : Some (h, trees es) ≡ node_of (plain e) = search rules in
    subst (λ a. IsAnswer a c.give_node.result) (sym (node_row most_of c.args.args.now e h (trees es) one seen ∙ most_given h es c.in-Some-default-len1-up.len_at_least)) c.give_node.ensures.answer
