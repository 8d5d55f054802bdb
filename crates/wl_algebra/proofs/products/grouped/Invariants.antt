use Rattle.std.proofs.Common.{◌≡◌, [], List, drop}
use Rattle.wl_expr.specs.Stamped.{Stamped}
use Rattle.wl_algebra.specs.Answers.{AllFrom, trees}
use Rattle.wl_algebra.specs.Products.{groups_on}
use Rattle.wl_algebra.specs.ProductsInside.{EntriesFrom, entry_groups}
use Rattle.wl_algebra.proofs.products.grouped.Given as goal

abbrev pub invariant-loop-arg : goal.invariant-loop-arg
invariant-loop-arg l = record {
  value : groups_on [] (trees l.args) ≡ groups_on (entry_groups l.groups.entries) (trees (drop l.arg-index l.args));
  passed : (ms : List Stamped) → AllFrom ms l.args → EntriesFrom ms l.groups.entries;
}
