use Rattle.std.proofs.Common.{◌≡◌, drop, fold}
use Rattle.wl_expr.specs.Hash.{mixed}
use Rattle.wl_expr.proofs.hash.mixed_bytes.Given as goal

abbrev pub invariant-loop-byte : goal.invariant-loop-byte
invariant-loop-byte l = fold mixed l.hash (drop l.byte-index l.bytes) ≡ fold mixed l.initial.hash l.bytes
