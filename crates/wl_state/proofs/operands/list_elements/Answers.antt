use Rattle.std.proofs.Common.{sym, ◌∙◌}
use Rattle.wl_expr.specs.Stamped.{plain}
use Rattle.wl_state.proofs.Setting.{list_read}
use Rattle.wl_state.proofs.Values.{args_honest}
use Rattle.wl_state.proofs.operands.list_elements.Goals as goal

pub returns-in-Node-clause-value : goal.returns-in-Node-clause-value
returns-in-Node-clause-value c = list_read (plain c.in-Node.head.now) (plain c.args.e.now) c.in-Node.args.now (sym c.is_symbol.ensures ∙ c.if-is_symbol.true) c.in-Node.ensures.plain

pub returns-in-Node-clause-honest : goal.returns-in-Node-clause-honest
returns-in-Node-clause-honest c a h = args_honest a _ _ c.in-Node.args.now _ c.in-Node.ensures.all h
