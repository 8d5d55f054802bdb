use Rattle.std.proofs.Common.{reverse, ap, ◌∙◌, sym, subst}
use Rattle.std.proofs.lemmas.List.Sorted.{All-permutation, IsPermutation-reverse}
use Rattle.wl_expr.specs.Passed.{IsFrom}
use Rattle.wl_lists.specs.Answers.{AllFrom, trees}
use Rattle.wl_lists.proofs.Rows.{reversed_trees}
use Rattle.wl_lists.proofs.elements.reversed.Goals as goal

pub returns-clause-value : goal.returns-clause-value
returns-clause-value c = ap trees (c.turn.ensures ∙ ap reverse c.in_ok-turned.ensures) ∙ reversed_trees c.args.elements.now

pub returns-clause-passed : goal.returns-clause-passed
returns-clause-passed c = λ ms h.
    let es = c.args.elements.now in
    subst (AllFrom ms) (sym (c.turn.ensures ∙ ap reverse c.in_ok-turned.ensures)) (All-permutation (IsFrom ms) es (reverse es) (IsPermutation-reverse es) h)
