use Rattle.wl_control.proofs.Elements.{front_from}
use Rattle.wl_control.proofs.choices.switch_from.Goals as goal

pub returns-clause-answer : goal.returns-clause-answer
returns-clause-answer c = rw (c.in-Some.ensures.items, c.in-Some-pop_front.ensures.items) c.evaluate.ensures.answer

pub returns-clause-passed : goal.returns-clause-passed
returns-clause-passed c ms s h =
    let one = front_from ms _ _ _ c.in-Some.ensures.items h in
    let two = front_from ms _ _ _ c.in-Some-pop_front.ensures.items one.1 in
    c.evaluate.ensures.passed ms one.0 (s, two.0, two.1)
