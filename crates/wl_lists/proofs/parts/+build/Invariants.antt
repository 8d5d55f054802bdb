use Rattle.std.proofs.Common.{◌≡◌, ◌≤◌, ◌+◌, ◌*◌, ◌++◌, List, None, drop, length, map}
use Rattle.wl_expr.specs.Passed.{IsFrom}
use Rattle.wl_expr.specs.Size.{weight_of}
use Rattle.wl_expr.specs.Stamped.{Stamped, plain}
use Rattle.wl_lists.specs.Answers.{AllFrom, trees}
use Rattle.wl_lists.specs.Parts.{failure, fails_among, part_of, single_part}
use Rattle.wl_lists.specs.PartsInside.{AreMade, MadeAreFrom}
use Rattle.wl_lists.proofs.parts.+build.Given as goal

abbrev pub decreases-part : goal.decreases-part
decreases-part l = 3 * length l.indices.now

abbrev pub decreases-made_once : goal.decreases-made_once
decreases-made_once l = 3 * length l.further.now + 1

abbrev pub decreases-parts_among : goal.decreases-parts_among
decreases-parts_among l = 3 * length l.further.now + 2

abbrev pub invariant-parts_among-loop-index : goal.invariant-parts_among-loop-index
invariant-parts_among-loop-index l = record {
  walked : fails_among (plain l.e) (λ t. failure (trees l.further) t) (trees (drop l.index-index l.indices)) ≡ None;
  are_made : AreMade (plain l.e) (trees l.further) l.made.entries;
  value : map (λ i. part_of (trees l.further) (single_part (plain l.e) i)) (trees l.indices)
      ≡ trees l.all.items ++ map (λ i. part_of (trees l.further) (single_part (plain l.e) i)) (trees (drop l.index-index l.indices));
  weighed : l.weight ≡ weight_of (trees l.all.items);
  light : l.weight ≤ 4000000;
  passed : (ms : List Stamped) → IsFrom ms l.e → AllFrom ms l.all.items;
  are_passed : (ms : List Stamped) → IsFrom ms l.e → MadeAreFrom ms l.made.entries;
}
