use Rattle.std.proofs.Common.{sym, ap, ◌∙◌}
use Rattle.wl_expr.specs.Words.{elements}
use Rattle.wl_state.proofs.Values.{args_honest, list_of_plains}
use Rattle.wl_state.proofs.guard.elements.Goals as goal

pub returns-in-Node-clause-elements : goal.returns-in-Node-clause-elements
returns-in-Node-clause-elements c = sym (list_of_plains c.in-Node.args.now) ∙ ap elements c.in-Node.ensures.plain

pub returns-in-Node-clause-honest : goal.returns-in-Node-clause-honest
returns-in-Node-clause-honest c = λ a h. args_honest a _ _ _ _ c.in-Node.ensures.all h
