use Rattle.wl_control.proofs.cursor.row_from.Goals as goal

pub returns-in-For-clause-answer : goal.returns-in-For-clause-answer
returns-in-For-clause-answer c = rw c.in-For.is c.evaluate.ensures.answer
