use Rattle.std.proofs.Common.{◌≡◌, ◌++◌, ◌+◌, ◌-◌, ◌/◌, List, length}
use Rattle.wl_expr.specs.Passed.{IsFrom}
use Rattle.wl_expr.specs.Stamped.{Stamped, plain}
use Rattle.wl_lists.specs.Answers.{AllFrom, trees}
use Rattle.wl_lists.specs.Partitions.{chunk, chunks}
use Rattle.wl_lists.specs.Tabulated.{tabulated}
use Rattle.wl_lists.proofs.partitions.chunks.Given as goal

abbrev pub invariant-loop-k : goal.invariant-loop-k
invariant-loop-k l = record {
  value : chunks (plain l.fn.head) l.size (trees l.fn.elements) ≡ trees l.all.items ++ tabulated (chunk (plain l.fn.head) l.size (trees l.fn.elements)) (0 + l.k) (length (trees l.fn.elements) / l.size - l.k);
  passed : (ms : List Stamped) → IsFrom ms l.fn.head → AllFrom ms l.fn.elements → AllFrom ms l.all.items;
}
