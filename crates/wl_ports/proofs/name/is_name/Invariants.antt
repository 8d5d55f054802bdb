use Rattle.std.specs.Str.Iter.{chars_rest}
use Rattle.wl_ports.proofs.Names.{IsNameSoFar}
use Rattle.wl_ports.proofs.name.is_name.Given as goal

abbrev pub invariant-loop-ch : goal.invariant-loop-ch
invariant-loop-ch l = IsNameSoFar l.text (chars_rest l.ch-iterator)
