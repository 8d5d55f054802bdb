use Rattle.std.proofs.Common.{◌≡◌, ◌||◌, ◌&&◌, ◌+◌, ◌*◌, drop}
use Rattle.wl_expr.specs.Same.{is_name_among}
use Rattle.wl_expr.specs.Stamped.{plain, plains, from_list}
use Rattle.wl_expr.specs.Tree.{depth, depths}
use Rattle.wl_expr.specs.Words.{Name}
use Rattle.wl_shape.specs.Fill.{reached_all, reached_formals}
use Rattle.wl_shape.specs.Names.{has_name}
use Rattle.wl_shape.proofs.reaching.+reach.Given as goal

abbrev pub decreases-reach : goal.decreases-reach
decreases-reach l = 6 * depth (plain l.e.now)

abbrev pub decreases-reach_all : goal.decreases-reach_all
decreases-reach_all l = 6 * depths (plains (from_list l.args.now)) + 1

abbrev pub decreases-reach_scope : goal.decreases-reach_scope
decreases-reach_scope l = 6 * depths (plains (from_list l.args.now)) + 2

abbrev pub decreases-reach_first : goal.decreases-reach_first
decreases-reach_first l = 6 * depth (plain l.first.now) + 1

abbrev pub decreases-reach_formals : goal.decreases-reach_formals
decreases-reach_formals l = 6 * depths (plains (from_list l.formals.now)) + 2

abbrev pub decreases-reach_formal : goal.decreases-reach_formal
decreases-reach_formal l = 6 * depth (plain l.formal.now) + 1

abbrev pub invariant-reach_all-loop-arg : goal.invariant-reach_all-loop-arg
invariant-reach_all-loop-arg l = (x : Name) → (has_name l.fn.met.keys x || (has_name l.targets.keys x && is_name_among x (reached_all (plains (from_list l.args)))))
    ≡ (has_name l.met.keys x || (has_name l.targets.keys x && is_name_among x (reached_all (plains (from_list (drop l.arg-index l.args))))))

abbrev pub invariant-reach_formals-loop-formal : goal.invariant-reach_formals-loop-formal
invariant-reach_formals-loop-formal l = (x : Name) → (has_name l.fn.met.keys x || (has_name l.targets.keys x && is_name_among x (reached_formals (plains (from_list l.formals)))))
    ≡ (has_name l.met.keys x || (has_name l.targets.keys x && is_name_among x (reached_formals (plains (from_list (drop l.formal-index l.formals))))))
