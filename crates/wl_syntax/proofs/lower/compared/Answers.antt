use Rattle.wl_syntax.proofs.Heads.{infix_is_name}
use Rattle.wl_syntax.proofs.lower.compared.Goals as goal

pub symbol-requires-clause-name : goal.symbol-requires-clause-name
symbol-requires-clause-name c = rw c.infix_name.ensures (infix_is_name c.args.operator)
