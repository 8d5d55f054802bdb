use Rattle.wl_state.proofs.Moves.{looked_rules, looked_honest}
use Rattle.wl_state.proofs.evaluator.Evaluator.rules_of.Goals as goal

pub returns-clause-rules : goal.returns-clause-rules
returns-clause-rules g c =
    looked_rules c.args.name.now c.in_ok-index.index c.args.self.now c.look.new.self c.args.kind c.in_ok-rules.field-0 c.requires.sound c.in_ok-index.ensures.played c.in_ok-rules.ensures

pub returns-clause-honest : goal.returns-clause-honest
returns-clause-honest g c =
    looked_honest c.args.name.now c.in_ok-index.index c.args.self.now c.look.new.self c.args.kind c.in_ok-rules.field-0 c.requires.sound c.in_ok-index.ensures.played c.in_ok-rules.ensures
