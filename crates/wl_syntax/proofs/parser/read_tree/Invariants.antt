use Rattle.wl_syntax.proofs.Parsing.{Running, tokens_of}
use Rattle.wl_syntax.proofs.parser.read_tree.Given as goal

abbrev pub invariant-loop-place : goal.invariant-loop-place
invariant-loop-place l = Running l.machine l.tags l.unmet (tokens_of l.tokens) l.place
