use Rattle.wl_syntax.proofs.Heads.{head_is_name}
use Rattle.wl_syntax.proofs.terms.named.Goals as goal

pub symbol-requires-clause-name : goal.symbol-requires-clause-name
symbol-requires-clause-name c = head_is_name _ c.requires.head
