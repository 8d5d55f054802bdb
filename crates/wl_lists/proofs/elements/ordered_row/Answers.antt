use Rattle.wl_lists.proofs.elements.ordered_row.Goals as goal

pub returns-in-Some-clause-passed : goal.returns-in-Some-clause-passed
returns-in-Some-clause-passed c = λ ms h. c.give_truth.ensures.passed ms
