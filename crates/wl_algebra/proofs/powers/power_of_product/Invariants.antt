use Rattle.std.proofs.Common.{◌≡◌, ◌++◌, List, drop}
use Rattle.wl_expr.specs.Passed.{IsFrom}
use Rattle.wl_expr.specs.Stamped.{Stamped, plain}
use Rattle.wl_algebra.specs.Answers.{AllFrom, trees}
use Rattle.wl_algebra.specs.Powers.{powers}
use Rattle.wl_algebra.proofs.powers.power_of_product.Given as goal

abbrev pub invariant-loop-factor : goal.invariant-loop-factor
invariant-loop-factor l = record {
  made : trees l.powers.items ++ powers (plain l.n) (trees (drop l.factor-index l.factors)) ≡ powers (plain l.n) (trees l.factors);
  passed : (ms : List Stamped) → AllFrom ms l.factors → IsFrom ms l.n → AllFrom ms l.powers.items;
}
