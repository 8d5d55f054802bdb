use Rattle.wl_control.proofs.Elements.{front_from}
use Rattle.wl_control.proofs.iterators.bounds_from.Goals as goal

pub returns-in-Some-clause-answer : goal.returns-in-Some-clause-answer
returns-in-Some-clause-answer c = rw c.in-Some.ensures.items c.evaluate.ensures.answer

pub returns-in-Some-clause-passed : goal.returns-in-Some-clause-passed
returns-in-Some-clause-passed c ms h =
    let p = front_from ms _ _ _ c.in-Some.ensures.items h.3 in
    c.evaluate.ensures.passed ms p.0 (h.0, h.1, h.2, p.1)
