use Rattle.std.proofs.Common.{◌≡◌, ◌+◌, ◌*◌, drop}
use Rattle.wl_expr.specs.Tree.{depth, depths}
use Rattle.wl_expr.specs.Stamped.{plain, plains, from_list}
use Rattle.wl_match.specs.Literals.{literals}
use Rattle.wl_state.proofs.literal.+literal.Given as goal

abbrev pub decreases-is_literal : goal.decreases-is_literal
decreases-is_literal l = 2 * depth (plain l.e.now)

abbrev pub decreases-are_literal : goal.decreases-are_literal
decreases-are_literal l = 2 * depths (plains (from_list l.args.now)) + 1

abbrev pub invariant-are_literal-loop-arg : goal.invariant-are_literal-loop-arg
invariant-are_literal-loop-arg l = literals (plains (from_list l.args)) ≡ literals (plains (from_list (drop l.arg-index l.args)))
