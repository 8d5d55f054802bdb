use Rattle.std.proofs.Common.{◌≡◌, ◌++◌, ◌+◌, ◌-◌, List}
use Rattle.wl_expr.specs.Passed.{IsFrom}
use Rattle.wl_expr.specs.Stamped.{Stamped, plain}
use Rattle.wl_lists.specs.Answers.{AllFrom, trees}
use Rattle.wl_lists.specs.Arrays.{image_at}
use Rattle.wl_lists.specs.Tabulated.{tabulated}
use Rattle.wl_lists.proofs.arrays.images.Given as goal

abbrev pub invariant-loop-before : goal.invariant-loop-before
invariant-loop-before l = record {
  value : tabulated (image_at (plain l.fn.f)) 1 l.count ≡ trees l.all.items ++ tabulated (image_at (plain l.fn.f)) (1 + l.before) (l.count - l.before);
  passed : (ms : List Stamped) → IsFrom ms l.fn.f → AllFrom ms l.all.items;
}
