use Rattle.std.specs.Str.Iter.{chars_rest}
use Rattle.wl_scan.proofs.Names.{NameSoFar}
use Rattle.wl_scan.proofs.lengths.name_length.Given as goal

abbrev pub invariant-loop-ch : goal.invariant-loop-ch
invariant-loop-ch l = NameSoFar l.text (chars_rest l.ch-iterator) l.length l.is_first
