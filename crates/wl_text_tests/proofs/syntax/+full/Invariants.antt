use Rattle.std.proofs.Common.{◌+◌, ◌*◌}
use Rattle.wl_expr.specs.Tree.{depth, depths}
use Rattle.wl_expr.specs.Stamped.{plain, plains, from_list}
use Rattle.wl_text_tests.proofs.syntax.+full.Given as goal

abbrev pub decreases-full : goal.decreases-full
decreases-full l = 2 * depth (plain l.e.now)

abbrev pub decreases-full_args : goal.decreases-full_args
decreases-full_args l = 2 * depths (plains (from_list l.args.now)) + 1
