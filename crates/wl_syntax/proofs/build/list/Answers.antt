use Rattle.std.proofs.Common.{refl}
use Rattle.wl_syntax.proofs.Heads.{head_is_name}
use Rattle.wl_syntax.proofs.build.list.Goals as goal

pub symbol-requires-clause-name : goal.symbol-requires-clause-name
symbol-requires-clause-name c = head_is_name _ refl
