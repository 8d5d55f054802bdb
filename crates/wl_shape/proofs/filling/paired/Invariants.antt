use Rattle.std.proofs.Common.{◌≡◌, List, drop}
use Rattle.wl_expr.specs.Stamped.{Stamped}
use Rattle.wl_expr.specs.Tree.{symbol}
use Rattle.wl_expr.specs.Words.{Name}
use Rattle.wl_shape.specs.Answers.{AllFrom, trees}
use Rattle.wl_shape.specs.Fill.{given, or_else}
use Rattle.wl_shape.specs.Given.{PairsFrom, paired_with}
use Rattle.wl_shape.specs.Names.{names_in}
use Rattle.wl_shape.proofs.filling.paired.Given as goal

abbrev pub invariant-loop-k : goal.invariant-loop-k
invariant-loop-k l = record {
  value : (x : Name) → given (names_in (trees l.names)) (trees l.values) x ≡ or_else (paired_with l.pairs.entries (symbol x)) (given (names_in (trees (drop l.k l.names))) (trees (drop l.k l.values)) x);
  passed : (ms : List Stamped) → AllFrom ms l.values → PairsFrom ms l.pairs.entries;
}
