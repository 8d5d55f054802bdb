use Rattle.std.proofs.Common.{◌≡◌, ◌||◌, ◌+◌, ◌*◌, drop}
use Rattle.wl_expr.specs.Same.{is_name_among}
use Rattle.wl_expr.specs.Stamped.{plain, plains, from_list}
use Rattle.wl_expr.specs.Tree.{depth, depths}
use Rattle.wl_expr.specs.Words.{Name}
use Rattle.wl_shape.specs.Fill.{names_all}
use Rattle.wl_shape.specs.Names.{has_name}
use Rattle.wl_shape.proofs.names.+names.Given as goal

abbrev pub decreases-add_names : goal.decreases-add_names
decreases-add_names l = 2 * depth (plain l.e.now)

abbrev pub decreases-add_all_names : goal.decreases-add_all_names
decreases-add_all_names l = 2 * depths (plains (from_list l.args.now)) + 1

abbrev pub invariant-add_all_names-loop-arg : goal.invariant-add_all_names-loop-arg
invariant-add_all_names-loop-arg l = (x : Name) → (has_name l.fn.names.keys x || is_name_among x (names_all (plains (from_list l.args)))) ≡ (has_name l.names.keys x || is_name_among x (names_all (plains (from_list (drop l.arg-index l.args)))))
