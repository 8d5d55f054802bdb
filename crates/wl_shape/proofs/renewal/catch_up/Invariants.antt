use Rattle.std.proofs.Common.{◌≡◌, ◌++◌, drop, length}
use Rattle.wl_shape.proofs.renewal.catch_up.Given as goal

abbrev pub invariant-loop-k : goal.invariant-loop-k
invariant-loop-k l = l.fn.all.items ++ drop (length l.fn.all.items) l.args ≡ l.all.items ++ drop l.k l.args
