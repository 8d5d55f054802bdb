use Rattle.wl_state.proofs.Values.{passed_honest}
use Rattle.wl_state.proofs.locals.numbered.Goals as goal

pub returns-in-Ok-clause-honest : goal.returns-in-Ok-clause-honest
returns-in-Ok-clause-honest c = λ a h. passed_honest a c.args.name.now c.in-Ok.e (λ ms g. c.in-Ok.ensures.passed ms g) h
