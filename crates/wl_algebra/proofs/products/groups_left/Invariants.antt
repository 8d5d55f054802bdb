use Rattle.std.proofs.Common.{◌≡◌, ◌++◌, List, drop}
use Rattle.wl_expr.specs.Stamped.{Stamped}
use Rattle.wl_algebra.specs.Answers.{AllFrom, trees}
use Rattle.wl_algebra.specs.Products.{groups_left}
use Rattle.wl_algebra.specs.ProductsInside.{EntriesFrom, entry_groups}
use Rattle.wl_algebra.proofs.products.groups_left.Given as goal

abbrev pub invariant-loop-at : goal.invariant-loop-at
invariant-loop-at l = record {
  value : trees l.left.items ++ groups_left (entry_groups (drop l.at l.groups.entries)) ≡ groups_left (entry_groups l.groups.entries);
  passed : (ms : List Stamped) → EntriesFrom ms l.groups.entries → AllFrom ms l.left.items;
}
