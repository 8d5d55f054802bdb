use Rattle.wl_syntax.proofs.Strings.{Unquoting}
use Rattle.wl_syntax.proofs.atoms.string.Given as goal

abbrev pub invariant-loop-ch : goal.invariant-loop-ch
invariant-loop-ch l = Unquoting l.token l.unquoted.bytes.items l.is_escaped l.ch-iterator.rest.now
