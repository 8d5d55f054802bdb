use Rattle.std.proofs.Common.{sym, ap, ◌∙◌}
use Rattle.wl_expr.specs.Words.{elements}
use Rattle.wl_state.proofs.Values.{list_of_plains}
use Rattle.wl_state.proofs.match_rows.elements.Goals as goal

pub returns-in-Node-clause-value : goal.returns-in-Node-clause-value
returns-in-Node-clause-value c = sym (list_of_plains c.in-Node.args.now) ∙ ap elements c.in-Node.ensures.plain
