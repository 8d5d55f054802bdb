use Rattle.std.proofs.Common.{map, take, []}
use Rattle.wl_syntax.specs.Built.{Are, pieces}
use Rattle.wl_syntax.specs.Polish.{node_of}
use Rattle.wl_syntax.proofs.Pieces.{built}
use Rattle.wl_syntax.proofs.build.build_expr.Given as goal

abbrev pub invariant-loop-node : goal.invariant-loop-node
invariant-loop-node l = Are l.stack.items (built (pieces []) (take l.node-index (map node_of l.nodes)))
