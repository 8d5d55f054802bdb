use Rattle.wl_control.proofs.Elements.{element_asked, front_from}
use Rattle.wl_control.proofs.junction.junction_from.Goals as goal

pub returns-in-Some-clause-answer : goal.returns-in-Some-clause-answer
returns-in-Some-clause-answer c = element_asked c.args.junction.connective _ _ _ _ _ c.in-Some.ensures.items c.evaluate.ensures.answer

pub returns-in-Some-clause-passed : goal.returns-in-Some-clause-passed
returns-in-Some-clause-passed c ms h =
    let p = front_from ms _ _ _ c.in-Some.ensures.items h.1 in
    c.evaluate.ensures.passed ms p.0 (h.0, p.1)
